use Rattle.paper.specs.Process.{move_on}
use Rattle.steps.proofs.Sequence.{then, any}
use Rattle.undo.proofs.Lines.{looks}
use Rattle.undo.proofs.Leaves.{naming}
use Rattle.lists.proofs.move_on.Goals as goal

pub returns : goal.returns
unfolding move_on
returns c =
    looks _ (naming _ _ _ c.name_of-x.ensures) (then (any c.set_h5.ensures) c.gives1.ensures)
