use Rattle.paper.proofs.Kit.{sym}
use Rattle.paper.specs.Limits.{largest_n}
use Rattle.deck.proofs.OutcomeLaws.{in-range, marks-lent, loads-none, loads-fine, loads-refused}
use Rattle.deck.proofs.load.Goals as goal

pub returns-then-not-size_fits : goal.returns-then-not-size_fits
returns-then-not-size_fits c =
    loads-none _ _ _ c.size_fits.ensures c.if-not-size_fits.true c.none.ensures

pub slice_bounds-names-end : goal.slice_bounds-names-end
slice_bounds-names-end c =
    in-range _ _ c.size_fits.ensures c.if-not-size_fits.false

pub slice_bounds-load_records-end : goal.slice_bounds-load_records-end
slice_bounds-load_records-end c =
    marks-lent _ largest_n (in-range _ _ c.size_fits.ensures c.if-not-size_fits.false)

pub load_records-requires : goal.load_records-requires
load_records-requires c =
    let few = in-range _ _ c.size_fits.ensures c.if-not-size_fits.false in
    record { few = few; marks = sym (marks-lent _ largest_n few) }

pub returns-in-Ok : goal.returns-in-Ok
returns-in-Ok c =
    loads-fine _ _ _ c.size_fits.ensures c.if-not-size_fits.false c.load_records.ensures c.in-Ok.is

pub returns-in-Err : goal.returns-in-Err
returns-in-Err c =
    loads-refused _ _ _ c.size_fits.ensures c.if-not-size_fits.false c.load_records.ensures c.in-Err.is c.load_records.auto.cells
    (c.fill.ensures.after (λ y e. e)) c.none-in-Err.ensures
