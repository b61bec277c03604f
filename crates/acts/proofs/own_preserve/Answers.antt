use Rattle.undo.proofs.Auto.{lines}
use Rattle.paper.specs.Act.{own_preserve}
use Rattle.acts.proofs.own_preserve.Goals as goal

pub returns : goal.returns
unfolding own_preserve
returns c = search lines depth 20
