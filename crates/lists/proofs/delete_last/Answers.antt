use Rattle.acts.proofs.Auto.{acting}
use Rattle.paper.specs.Process.{delete_last}
use Rattle.lists.proofs.delete_last.Goals as goal

pub returns : goal.returns
unfolding delete_last
returns c = search acting depth 20
