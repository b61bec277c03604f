use Rattle.steps.proofs.Sequence.{alike}
use Rattle.undo.proofs.Lines.{looks}
use Rattle.paper.specs.Act.{store}
use Rattle.paper.proofs.Kit.{ap}
use Rattle.paper.specs.Cycle.{copy_to}
use Rattle.cycle.proofs.control.copy_to.Goals as goal

pub returns : goal.returns
unfolding copy_to
returns c =
    looks _ c.own-w0.ensures (alike (ap (store _) c.symbol.ensures) c.store.ensures)
