use Rattle.undo.proofs.Auto.{lines}
use Rattle.paper.specs.Act.{pop}
use Rattle.acts.proofs.pop.Goals as goal

pub returns : goal.returns
unfolding pop
returns c = search lines depth 20
