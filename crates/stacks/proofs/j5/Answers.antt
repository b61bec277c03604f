use Rattle.acts.proofs.Auto.{acting}
use Rattle.paper.specs.Process.{J5}
use Rattle.stacks.proofs.j5.Goals as goal

pub returns : goal.returns
unfolding J5
returns c = search acting depth 20
