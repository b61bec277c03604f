use Rattle.paper.proofs.Kit.{refl, arith}
use Rattle.paper.specs.Process.{listed, J152, J153}
use Rattle.steps.proofs.Listed.{entry_for}
use Rattle.printing.proofs.PrintingLaws.{p-arm}
use Rattle.printing.proofs.on_lines.Goals as goal

pub returns-then-j-eq152 : goal.returns-then-j-eq152
unfolding entry_for listed
returns-then-j-eq152 c =
    p-arm 152 J152 c.j152.ensures c.if-j-eq152.true refl

pub returns : goal.returns
unfolding entry_for listed
returns c =
    p-arm 153 J153 c.j153.ensures (omega arith) refl
