use Rattle.steps.proofs.Sequence.{same_err}
use Rattle.undo.proofs.Auto.{lines}
use Rattle.steps.proofs.Sequence.{alike}
use Rattle.acts.proofs.Once.{push-once}
use Rattle.acts.proofs.push.Goals as goal

pub returns-in_err-t : goal.returns-in_err-t
returns-in_err-t c = let e = c.in_err-t.ensures in rw (same_err c.from_residual.ensures.1) (alike (push-once _) (search lines depth 20))

pub returns : goal.returns
returns c = let h = c.in_ok-t.ensures in alike (push-once _) (search lines depth 20)
