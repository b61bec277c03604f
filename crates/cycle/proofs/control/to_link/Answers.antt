use Rattle.steps.proofs.Sequence.{any}
use Rattle.undo.proofs.Lines.{looks}
use Rattle.undo.proofs.Leaves.{naming}
use Rattle.paper.specs.Cycle.{to_link}
use Rattle.cycle.proofs.control.to_link.Goals as goal

pub returns : goal.returns
unfolding to_link
returns c =
    looks _ (naming _ _ _ c.name_of-x.ensures) (any c.own_store.ensures)
