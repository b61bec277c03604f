use Rattle.paper.proofs.Kit.{arith, refl}
use Rattle.cells.proofs.Laws.{packs-integer}
use Rattle.cells.proofs.of_integer.Goals as goal

pub returns : goal.returns
returns c = packs-integer _ (omega arith) refl
