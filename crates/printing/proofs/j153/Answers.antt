use Rattle.paper.proofs.Kit.{ap}
use Rattle.paper.specs.declared.Symbol.{Symbol}
use Rattle.paper.specs.Act.{term_at}
use Rattle.paper.specs.Process.{J153}
use Rattle.steps.proofs.Sequence.{alike, same_err}
use Rattle.printing.specs.Telling.{print_pop}
use Rattle.printing.proofs.PrintingLaws.{p-sees, p-reads, p-reads_err, p-alike}
use Rattle.printing.proofs.j153.Goals as goal

pub returns-in_err-x : goal.returns-in_err-x
unfolding J153
returns-in_err-x c =
    let at = ap (λ (y : Symbol). term_at y.num) c.symbol.ensures in
    rw (same_err c.from_residual.ensures.1) (p-sees _ c.own-w.ensures (p-reads_err _ c.requires.2 (alike at c.in_err-x.ensures)))

pub returns : goal.returns
unfolding J153
returns c =
    let at = ap (λ (y : Symbol). term_at y.num) c.symbol.ensures in
    let text = c.term_text-n.ensures.writes.text in
    p-sees _ c.own-w.ensures (p-reads _ (alike at c.in_ok-x.ensures) (p-alike (ap print_pop text) c.print.ensures))
