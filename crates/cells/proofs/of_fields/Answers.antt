use Rattle.paper.proofs.Kit.{arith, refl}
use Rattle.cells.proofs.Laws.{packs-word}
use Rattle.cells.proofs.of_fields.Goals as goal

pub returns : goal.returns
returns c = packs-word _ _ _ _ (omega arith) (omega arith) (omega arith) (omega arith) refl
