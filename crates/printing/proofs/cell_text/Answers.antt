use Rattle.paper.proofs.Kit.{ap, arith}
use Rattle.paper.specs.Print.{cell_text}
use Rattle.printing.proofs.TextLaws.{text-of, text-after}
use Rattle.printing.proofs.cell_text.Goals as goal

pub returns-in-Some : goal.returns-in-Some
unfolding cell_text
returns-in-Some c =
    let w = c.number.ensures in
    text-after _ (ap (cell_text c.args.c) c.in-Some.ensures) (omega (arith, w.1)) (omega arith) w.0

pub returns-in-None : goal.returns-in-None
unfolding cell_text
returns-in-None c =
    let w = c.number-in-None.ensures in
    text-of (ap (cell_text c.args.c) c.in-None.ensures) (omega (arith, w.1)) w.0
