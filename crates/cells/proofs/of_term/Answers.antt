use Rattle.paper.proofs.Kit.{refl}
use Rattle.cells.proofs.Laws.{packs-term}
use Rattle.cells.proofs.of_term.Goals as goal

pub returns : goal.returns
returns c = packs-term _ refl
