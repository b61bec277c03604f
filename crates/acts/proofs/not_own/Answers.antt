use Rattle.undo.proofs.Auto.{lines}
use Rattle.paper.specs.Act.{not_own}
use Rattle.acts.proofs.not_own.Goals as goal

pub returns : goal.returns
unfolding not_own
returns c = search lines depth 20
