use Rattle.acts.proofs.Auto.{acting}
use Rattle.paper.specs.Process.{at_end}
use Rattle.lists.proofs.at_end.Goals as goal

pub returns : goal.returns
unfolding at_end
returns c = search acting depth 20
