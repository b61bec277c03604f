use Rattle.paper.proofs.Kit.{ap, ◌∙◌}
use Rattle.paper.specs.Print.{symbol_text}
use Rattle.paper.specs.Process.{J152}
use Rattle.printing.specs.Telling.{print_pop}
use Rattle.printing.proofs.PrintingLaws.{p-sees, p-text, p-alike}
use Rattle.printing.proofs.j152.Goals as goal

pub returns : goal.returns
unfolding J152
returns c =
    let text = c.symbol_text-n.ensures.writes.text ∙ ap (symbol_text _) c.symbol.ensures in
    p-sees _ c.own-w.ensures (p-text _ _ (p-alike (ap print_pop text) c.print.ensures))
