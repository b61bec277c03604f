use Rattle.paper.proofs.Kit.{arith}
use Rattle.printing.proofs.TextLaws.{writes_one}
use Rattle.printing.proofs.end_line.Goals as goal

pub returns : goal.returns
returns c = writes_one _ _ _ (omega arith)
