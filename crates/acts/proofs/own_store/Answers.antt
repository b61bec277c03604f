use Rattle.undo.proofs.Auto.{lines}
use Rattle.paper.specs.Act.{own_store}
use Rattle.acts.proofs.own_store.Goals as goal

pub returns : goal.returns
unfolding own_store
returns c = search lines depth 20
