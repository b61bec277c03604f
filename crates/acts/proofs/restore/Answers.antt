use Rattle.undo.proofs.Auto.{lines}
use Rattle.steps.proofs.Sequence.{same_err}
use Rattle.paper.specs.Act.{restore}
use Rattle.acts.proofs.restore.Goals as goal

pub returns-in_err-w : goal.returns-in_err-w
unfolding restore
returns-in_err-w c = let e = c.in_err-w.ensures in rw (same_err c.from_residual.ensures.1) (search lines depth 20)

pub returns-in_err-has_below : goal.returns-in_err-has_below
unfolding restore
returns-in_err-has_below c = let h0 = c.in_ok-w.ensures in let e = c.in_err-has_below.ensures in rw (same_err c.from_residual-in_err-has_below.ensures.1) (search lines depth 20)

pub returns-in_err-not_own : goal.returns-in_err-not_own
unfolding restore
returns-in_err-not_own c = let h0 = c.in_ok-w.ensures in let h1 = c.in_ok-has_below.ensures in let e = c.in_err-not_own.ensures in rw (same_err c.from_residual-in_err-not_own.ensures.1) (search lines depth 20)

pub returns : goal.returns
unfolding restore
returns c = let h0 = c.in_ok-w.ensures in let h1 = c.in_ok-has_below.ensures in let h2 = c.in_ok-not_own.ensures in search lines depth 20
