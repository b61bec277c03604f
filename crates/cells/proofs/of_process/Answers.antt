use Rattle.paper.proofs.Kit.{refl}
use Rattle.paper.specs.Cell.{process}
use Rattle.cells.proofs.Laws.{packs}
use Rattle.cells.proofs.of_process.Goals as goal

pub returns : goal.returns
returns c = packs process tt refl
