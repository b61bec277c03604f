use Rattle.paper.proofs.Kit.{ap}
use Rattle.paper.specs.Process.{at_end, drop_end}
use Rattle.steps.proofs.Sequence.{then, any, alike}
use Rattle.undo.proofs.Lines.{puts, once}
use Rattle.lists.proofs.drop_end.Goals as goal

pub returns : goal.returns
unfolding drop_end
returns c =
    then (any (once _ _ (puts _ c.with_link.ensures c.put.ensures))) (then (any c.release.ensures)
    (alike (ap at_end c.symbol.ensures) c.at_end.ensures))
