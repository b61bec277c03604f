use Rattle.undo.proofs.Auto.{lines}
use Rattle.steps.proofs.Sequence.{same_err}
use Rattle.paper.specs.Act.{has_below}
use Rattle.acts.proofs.has_below.Goals as goal

pub returns-in_err-refuse_if : goal.returns-in_err-refuse_if
unfolding has_below
returns-in_err-refuse_if c = let e = c.in_err-refuse_if.ensures in rw (same_err c.from_residual.ensures.1) (search lines depth 20)

pub returns : goal.returns
unfolding has_below
returns c = let h0 = c.in_ok-refuse_if.ensures in search lines depth 20
