use Rattle.undo.proofs.Auto.{lines}
use Rattle.steps.proofs.Sequence.{same_err}
use Rattle.paper.specs.Act.{read_at}
use Rattle.acts.proofs.read_at.Goals as goal

pub returns-in_err-w : goal.returns-in_err-w
unfolding read_at
returns-in_err-w c = let e = c.in_err-w.ensures in rw (same_err c.from_residual.ensures.1) (search lines depth 20)

pub returns-in_err-refuse_if : goal.returns-in_err-refuse_if
unfolding read_at
returns-in_err-refuse_if c = let h0 = c.in_ok-w.ensures in let e = c.in_err-refuse_if.ensures in rw (same_err c.from_residual-in_err-refuse_if.ensures.1) (search lines depth 20)

pub returns-in_err-not_own : goal.returns-in_err-not_own
unfolding read_at
returns-in_err-not_own c = let h0 = c.in_ok-w.ensures in let h1 = c.in_ok-refuse_if.ensures in let e = c.in_err-not_own.ensures in rw (same_err c.from_residual-in_err-not_own.ensures.1) (search lines depth 20)

pub returns : goal.returns
unfolding read_at
returns c = let h0 = c.in_ok-w.ensures in let h1 = c.in_ok-refuse_if.ensures in let h2 = c.in_ok-not_own.ensures in search lines depth 20
