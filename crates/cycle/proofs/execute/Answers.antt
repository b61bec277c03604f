use Rattle.cycle.specs.Reaches.{Past}
use Rattle.cycle.proofs.ExecuteLaws.{untouched, is_own, performed, descended, not-one}
use Rattle.cycle.proofs.PartLaws.{part-quiet}
use Rattle.structures.proofs.Whole.{range-as}
use Rattle.steps.proofs.Sequence.{same_err, most}
use Rattle.paper.proofs.Kit.{refl, sym, ◌∙◌, arith}
use Rattle.std.specs.Prelude.{Ok, Err}
use Rattle.cycle.proofs.execute.Goals as goal

pub returns-in_err-y : goal.returns-in_err-y
unfolding Past
returns-in_err-y c =
    rw (same_err c.from_residual.ensures.1) (part-quiet _ _ _ c.requires.within (Err _) refl c.top_of.ensures.0 (most _ (omega arith) c.in_err-y.ensures))

pub returns-in_err-t : goal.returns-in_err-t
unfolding Past
returns-in_err-t c =
    let p = c.in_ok-y.ensures in
    let e = c.in_err-t.ensures in
    rw (same_err c.from_residual-in_err-t.ensures.1) (untouched _ c.top_of.ensures.0 p _ _ _ c.requires.within (omega arith) e)

pub returns-in_err-not_own : goal.returns-in_err-not_own
unfolding Past
returns-in_err-not_own c =
    let p = c.in_ok-y.ensures in
    let m = c.in_ok-t.ensures in
    let e = c.in_err-not_own.ensures in
    rw (same_err c.from_residual-in_err-not_own.ensures.1) (is_own _ c.top_of.ensures.0 p _ _ _ c.requires.within (omega arith) m e)

pub perform-requires : goal.perform-requires
unfolding Past
perform-requires c =
    let p = c.in_ok-y.ensures in
    let m = c.in_ok-t.ensures in (
      record {
        range = range-as c.past_j1.auto.cells c.requires.range;
        room = record { fits = omega (arith, c.past_j1.auto.cells, c.past_j1.auto.log, p.reaches.kept.count, c.requires.room.fits) };
        within = c.requires.within;
        names = c.requires.names;
      },
      not-one c.args.table.now c.top_of.ensures.0 p m c.in_ok-not_own.ensures _ (sym c.is_process.ensures ∙ c.if-is_process.true)
          c.process_number-j.ensures.0,
      c.process_number-j.ensures.1,
    )

pub returns-in_err-end : goal.returns-in_err-end
unfolding Past
returns-in_err-end c =
    let p = c.in_ok-y.ensures in
    let m = c.in_ok-t.ensures in
    let own = c.in_ok-not_own.ensures in
    let f = c.in_err-end.ensures in
    rw (same_err c.from_residual-in_err-end.ensures.1) (performed _ c.top_of.ensures.0 p m own _ _ (Err _) (omega (arith, c.past_j1.auto.cells))
    (sym c.is_process.ensures ∙ c.if-is_process.true) c.process_number-j.ensures.0 f)

pub returns-then-is_process : goal.returns-then-is_process
unfolding Past
returns-then-is_process c =
    let p = c.in_ok-y.ensures in
    let m = c.in_ok-t.ensures in
    let own = c.in_ok-not_own.ensures in
    let f = c.in_ok-end.ensures in
    (performed _ c.top_of.ensures.0 p m own _ _ (Ok _) (omega (arith, c.past_j1.auto.cells))
    (sym c.is_process.ensures ∙ c.if-is_process.true) c.process_number-j.ensures.0 f)

pub descend-requires : goal.descend-requires
unfolding Past
descend-requires c =
    let p = c.in_ok-y.ensures in
    record { fits = omega (arith, c.past_j1.auto.cells, c.past_j1.auto.log, p.reaches.kept.count, c.requires.room.fits) }

pub returns-in_err-descend : goal.returns-in_err-descend
unfolding Past
returns-in_err-descend c =
    let p = c.in_ok-y.ensures in
    let m = c.in_ok-t.ensures in
    let own = c.in_ok-not_own.ensures in
    let e = c.in_err-descend.ensures in
    rw (same_err c.from_residual-in_err-descend.ensures.1)
    (descended _ c.top_of.ensures.0 p m own _ _ _ c.requires.within (omega arith) (sym c.is_process.ensures ∙ c.if-is_process.false) (Err _)
    refl e)

pub returns : goal.returns
unfolding Past
returns c =
    let p = c.in_ok-y.ensures in
    let m = c.in_ok-t.ensures in
    let own = c.in_ok-not_own.ensures in
    let f = c.in_ok-descend.ensures in
    (descended _ c.top_of.ensures.0 p m own _ _ _ c.requires.within (omega arith) (sym c.is_process.ensures ∙ c.if-is_process.false) (Ok _) refl f)
