use Rattle.undo.proofs.Auto.{lines}
use Rattle.steps.proofs.Sequence.{same_err}
use Rattle.paper.specs.Cycle.{descend}
use Rattle.cycle.proofs.control.descend.Goals as goal

pub returns-in_err-own_preserve : goal.returns-in_err-own_preserve
unfolding descend
returns-in_err-own_preserve c = let e = c.in_err-own_preserve.ensures in rw (same_err c.from_residual.ensures.1) (search lines depth 20)

pub returns : goal.returns
unfolding descend
returns c = let h0 = c.in_ok-own_preserve.ensures in search lines depth 20
