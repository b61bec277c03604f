use Rattle.undo.proofs.Auto.{lines}
use Rattle.steps.proofs.Sequence.{same_err}
use Rattle.paper.specs.Act.{own_restore}
use Rattle.acts.proofs.own_restore.Goals as goal

pub returns-in_err-has_below : goal.returns-in_err-has_below
unfolding own_restore
returns-in_err-has_below c = let e = c.in_err-has_below.ensures in rw (same_err c.from_residual.ensures.1) (search lines depth 20)

pub returns : goal.returns
unfolding own_restore
returns c = let h0 = c.in_ok-has_below.ensures in search lines depth 20
