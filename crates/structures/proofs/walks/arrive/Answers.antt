use Rattle.structures.proofs.Turn.{arrives-fine}
use Rattle.structures.proofs.walks.arrive.Goals as goal

pub returns-then-fine : goal.returns-then-fine
returns-then-fine c = arrives-fine _ _ _ _ _ c.peek-x.ensures (c.fine.ensures c.if-fine.true)
