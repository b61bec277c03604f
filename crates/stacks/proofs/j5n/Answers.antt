use Rattle.acts.proofs.Auto.{acting}
use Rattle.steps.proofs.Sequence.{same_err}
use Rattle.paper.specs.Process.{J5n}
use Rattle.stacks.proofs.j5n.Goals as goal

pub returns-in_err-j4n : goal.returns-in_err-j4n
unfolding J5n
returns-in_err-j4n c = let e = c.in_err-j4n.ensures in rw (same_err c.from_residual.ensures.1) (search acting depth 20)

pub returns : goal.returns
unfolding J5n
returns c = let h0 = c.in_ok-j4n.ensures in search acting depth 20
