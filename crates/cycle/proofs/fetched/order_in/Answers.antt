use Rattle.undo.proofs.Auto.{lines}
use Rattle.steps.proofs.Sequence.{same_err}
use Rattle.cycle.specs.Order.{order_in}
use Rattle.cycle.proofs.fetched.order_in.Goals as goal

pub returns-in_err-refuse_if : goal.returns-in_err-refuse_if
unfolding order_in
returns-in_err-refuse_if c = let e = c.in_err-refuse_if.ensures in rw (same_err c.from_residual.ensures.1) (search lines depth 20)

pub returns-in_err-not_own : goal.returns-in_err-not_own
unfolding order_in
returns-in_err-not_own c = let h0 = c.in_ok-refuse_if.ensures in let e = c.in_err-not_own.ensures in rw (same_err c.from_residual-in_err-not_own.ensures.1) (search lines depth 20)

pub returns-in_err-x : goal.returns-in_err-x
unfolding order_in
returns-in_err-x c = let h0 = c.in_ok-refuse_if.ensures in let h1 = c.in_ok-not_own.ensures in let e = c.in_err-x.ensures in rw (same_err c.from_residual-in_err-x.ensures.1) (search lines depth 20)

pub returns : goal.returns
unfolding order_in
returns c = let h0 = c.in_ok-refuse_if.ensures in let h1 = c.in_ok-not_own.ensures in let h2 = c.in_ok-x.ensures in search lines depth 20
