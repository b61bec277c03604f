use Rattle.structures.proofs.Turn.{chains-fine}
use Rattle.structures.proofs.chains.arrive.Goals as goal

pub returns-then-fine : goal.returns-then-fine
returns-then-fine c =
    chains-fine _ _ _ c.peek-x.ensures c.word_in.ensures (c.fine.ensures c.if-fine.true)
