use Rattle.acts.proofs.Auto.{acting}
use Rattle.steps.proofs.Sequence.{same_err}
use Rattle.paper.specs.Process.{J2}
use Rattle.stacks.proofs.j2.Goals as goal

pub returns-in_err-w1 : goal.returns-in_err-w1
unfolding J2
returns-in_err-w1 c = let e = c.in_err-w1.ensures in rw (same_err c.from_residual.ensures.1) (search acting depth 20)

pub returns : goal.returns
unfolding J2
returns c = let h0 = c.in_ok-w1.ensures in search acting depth 20
