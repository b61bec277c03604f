use Rattle.deck.proofs.RecordLaws.{tested-too, tested-no, tested-err}
use Rattle.paper.specs.Deck.{load_routine}
use Rattle.paper.specs.declared.Fault.TheVariants.{Hopeless}
use Rattle.paper.proofs.Kit.{ap, eqb, ◌&&◌}
use Rattle.steps.proofs.Sequence.{when, same_err}
use Rattle.deck.proofs.load_routine.Goals as goal

pub returns-in_err-t : goal.returns-in_err-t
unfolding load_routine
returns-in_err-t c =
    rw (same_err c.from_residual.ensures.1) (tested-err _ _ c.in_err-t.ensures)

pub returns-in_err-refuse_if : goal.returns-in_err-refuse_if
unfolding load_routine
returns-in_err-refuse_if c =
    let w = c.args.w in
    rw (same_err c.from_residual-in_err-refuse_if.ensures.1)
    (tested-no _ _ c.in_ok-t.ensures (when Hopeless (ap (λ b. eqb w.p 0 && eqb w.q 0 && b) c.is_missing.ensures) c.in_err-refuse_if.ensures) c.requires)

pub returns : goal.returns
unfolding load_routine
returns c =
    let w = c.args.w in
    tested-too _ _ c.in_ok-t.ensures (when Hopeless (ap (λ b. eqb w.p 0 && eqb w.q 0 && b) c.is_missing.ensures) c.in_ok-refuse_if.ensures)
