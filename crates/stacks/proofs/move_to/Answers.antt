use Rattle.paper.proofs.Kit.{ap}
use Rattle.paper.specs.Act.{own_store}
use Rattle.paper.specs.Process.{move_to}
use Rattle.steps.proofs.Sequence.{any, any-sees, then, alike, most}
use Rattle.undo.proofs.Lines.{looks}
use Rattle.undo.proofs.Log.{writes-most}
use Rattle.stacks.proofs.move_to.Goals as goal

pub returns : goal.returns
unfolding move_to
returns c =
    looks _ (any-sees c.own-w0.ensures) (then (most 1 (writes-most c.args.w)
    (any (alike (ap (own_store _) c.symbol.ensures) c.own_store.ensures))) c.pop.ensures)
