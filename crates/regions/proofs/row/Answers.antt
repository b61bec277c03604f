use Rattle.paper.proofs.Kit.{refl, arith}
use Rattle.regions.proofs.LentLaws.{row_is}
use Rattle.regions.proofs.row.Goals as goal

pub returns : goal.returns
returns c = row_is _ _ _ (omega arith) (omega arith) refl
