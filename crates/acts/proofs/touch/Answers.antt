use Rattle.undo.proofs.Auto.{lines}
use Rattle.steps.proofs.Sequence.{same_err}
use Rattle.paper.specs.Act.{touch}
use Rattle.acts.proofs.touch.Goals as goal

pub returns-in_err-refuse_if : goal.returns-in_err-refuse_if
unfolding touch
returns-in_err-refuse_if c = let e = c.in_err-refuse_if.ensures in rw (same_err c.from_residual.ensures.1) (search lines depth 20)

pub returns-in_err-refuse_if-2 : goal.returns-in_err-refuse_if-2
unfolding touch
returns-in_err-refuse_if-2 c = let h0 = c.in_ok-refuse_if.ensures in let e = c.in_err-refuse_if-2.ensures in rw (same_err c.from_residual-in_err-refuse_if-2.ensures.1) (search lines depth 20)

pub returns : goal.returns
unfolding touch
returns c = let h0 = c.in_ok-refuse_if.ensures in let h1 = c.in_ok-refuse_if-2.ensures in search lines depth 20
