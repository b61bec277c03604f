use Rattle.acts.proofs.Auto.{acting}
use Rattle.paper.specs.Process.{retags}
use Rattle.stacks.proofs.retags.Goals as goal

pub returns : goal.returns
unfolding retags
returns c = search acting depth 20
