use Rattle.undo.proofs.Auto.{lines}
use Rattle.steps.proofs.Sequence.{same_err}
use Rattle.paper.specs.Cycle.{put_in}
use Rattle.cycle.proofs.control.put_in.Goals as goal

pub returns-in_err-copy_to : goal.returns-in_err-copy_to
unfolding put_in
returns-in_err-copy_to c = let e = c.in_err-copy_to.ensures in rw (same_err c.from_residual.ensures.1) (search lines depth 20)

pub returns : goal.returns
unfolding put_in
returns c = let h0 = c.in_ok-copy_to.ensures in search lines depth 20
