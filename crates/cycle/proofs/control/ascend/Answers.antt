use Rattle.undo.proofs.Auto.{lines}
use Rattle.steps.proofs.Sequence.{same_err}
use Rattle.paper.specs.Cycle.{ascend}
use Rattle.cycle.proofs.control.ascend.Goals as goal

pub returns-in_err-own_restore : goal.returns-in_err-own_restore
unfolding ascend
returns-in_err-own_restore c = let e = c.in_err-own_restore.ensures in rw (same_err c.from_residual.ensures.1) (search lines depth 20)

pub returns-in_err-l : goal.returns-in_err-l
unfolding ascend
returns-in_err-l c = let h0 = c.in_ok-own_restore.ensures in let e = c.in_err-l.ensures in rw (same_err c.from_residual-in_err-l.ensures.1) (search lines depth 20)

pub returns : goal.returns
unfolding ascend
returns c = let h0 = c.in_ok-own_restore.ensures in let h1 = c.in_ok-l.ensures in search lines depth 20
