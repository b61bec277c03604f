use Rattle.paper.proofs.Kit.{[], sym, ◌∙◌, arith}
use Rattle.steps.proofs.Sequence.{same_err}
use Rattle.regions.proofs.LentLaws.{told-from}
use Rattle.printing.proofs.PrintingLaws.{no_line, the-line, line-pops, line-not, line-fits}
use Rattle.printing.proofs.print.Goals as goal

-- no room; the pop is refused
pub returns-in_err-refuse_if : goal.returns-in_err-refuse_if
returns-in_err-refuse_if c =
    let pre = c.requires in
    rw (same_err c.from_residual.ensures.1)
    (no_line [] pre.2 (λ rs k. line-not c.told-line pre.3 c.end_line-len.ensures _ c.in_err-refuse_if.ensures))

pub pop-requires : goal.pop-requires
pop-requires c =
    let pre = c.requires in
    record { fits = omega (arith, pre.0.fits); ends = told-from pre.1 }

pub returns-in_err-pop : goal.returns-in_err-pop
returns-in_err-pop c =
    let pre = c.requires in
    rw (same_err c.from_residual-in_err-pop.ensures.1)
    (no_line _ pre.2 (λ rs k. line-pops c.told-line pre.3 c.end_line-len.ensures _ c.in_ok-refuse_if.ensures c.in_err-pop.ensures (sym k.top)))

pub write_line-requires : goal.write_line-requires
write_line-requires c =
    let pre = c.requires in
    let w = c.end_line-len.ensures in
    let fits = line-fits c.told-line pre.3 w _ c.in_ok-refuse_if.ensures in
    (omega (arith, fits), omega (arith, w.end))

pub returns : goal.returns
returns c =
    let pre = c.requires in
    let w = c.end_line-len.ensures in
    let fits = line-fits c.told-line pre.3 w _ c.in_ok-refuse_if.ensures in
    the-line _ _ c.write_line.ensures.0 (omega (arith, w.sized, w.end)) (omega (arith, fits)) c.write_line.ensures.1
    (λ rs k. line-pops c.told-line pre.3 w _ c.in_ok-refuse_if.ensures c.in_ok-pop.ensures (sym k.top))
