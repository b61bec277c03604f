use Rattle.paper.proofs.Kit.{arith, refl}
use Rattle.paper.specs.Cell.{free}
use Rattle.cells.proofs.Laws.{packs}
use Rattle.cells.proofs.of_free.Goals as goal

pub returns : goal.returns
returns c = packs (free _) (omega arith) refl
