use Rattle.paper.specs.Cycle.{go_to}
use Rattle.undo.proofs.Auto.{lines}
use Rattle.cycle.proofs.control.go_to.Goals as goal

pub returns : goal.returns
unfolding go_to
returns c = search lines depth 20
