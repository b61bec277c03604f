use Rattle.paper.proofs.Kit.{arith}
use Rattle.cells.proofs.Laws.{packs-word}
use Rattle.cells.proofs.with_symbol.Goals as goal

pub returns : goal.returns
returns c = packs-word _ _ _ _ (omega arith) (omega arith) (omega arith) (omega arith) (omega arith)
