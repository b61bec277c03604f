use Rattle.deck.proofs.LoopLaws.{part_at, to_end, stands-first, written-more, none-at-hand, bad-field, refuses, still_formed, reads_on, further}
use Rattle.deck.proofs.LoopLaws.{goes-round, table_made, not-ended, hopeless, completes, ends}
use Rattle.records.proofs.Laws.{few-symbols}
use Rattle.paper.proofs.Kit.{◌<◌, length, sym, ◌∙◌, arith, rules}
use Rattle.deck.proofs.load_records.Goals as goal

pub deck-init : goal.deck-init
deck-init c =
    stands-first _ _ c.none-regions.ensures c.begin-notes.auto.cells (c.begin-notes.auto.names ∙ c.requires.marks ∙ sym c.begin-notes.auto.cells)
    c.begin-notes.ensures.0 c.begin-notes.ensures.1

pub returns-then-at-deck : goal.returns-then-at-deck
returns-then-at-deck c =
    let w = c.deck.invariant in
    ends _ _ c.begin-notes.auto.cells (none-at-hand w c.if-at-deck.true) w.formed tt

pub loop-i-preserved : goal.loop-i-preserved
loop-i-preserved c = (
  search rules,
  written-more _ _ c.loop-i.symbols c.loop-i.i _ _
      (omega (arith, c.loop-i.invariant.0, c.loop-i-test.true, c.symbols_at-i-end.ensures, few-symbols (part_at c.args.deck.now c.deck.at)))
      c.loop-i.invariant.1 c.symbol.ensures c.in-Some.is,
)

pub returns-in_default : goal.returns-in_default
returns-in_default c =
    let w = c.deck.invariant in
    let h : c.deck.at < length c.args.deck.now = omega (arith, w.within, c.if-at-deck.false) in
    ends _ _ c.begin-notes.auto.cells
    (bad-field w h _ (to_end c.args.deck.now c.deck.at) c.loop-i.i _ (omega (arith, c.loop-i-test.true, c.symbols_at-i-end.ensures)) c.symbol.ensures
    c.in_default.is)
    w.formed tt

pub returns-in-Err : goal.returns-in-Err
returns-in-Err c =
    let w = c.deck.invariant in
    let h : c.deck.at < length c.args.deck.now = omega (arith, w.within, c.if-at-deck.false) in
    let part = to_end c.args.deck.now c.deck.at in
    ends _ _ c.begin-notes.auto.cells (refuses w h _ part c.load_one.ensures c.in-Err.is) (still_formed w h _ part c.load_one.ensures) tt

pub overflow_add-at : goal.overflow_add-at
overflow_add-at c =
    let w = c.deck.invariant in
    let h : c.deck.at < length c.args.deck.now = omega (arith, w.within, c.if-at-deck.false) in
    let part = to_end c.args.deck.now c.deck.at in
    omega (arith, reads_on w h _ part c.load_one.ensures c.in-Ok.is _ c.size_of-at.ensures, c.well_formed.0.0)

pub returns-then-at-deck-2 : goal.returns-then-at-deck-2
returns-then-at-deck-2 c =
    let w = c.deck.invariant in
    let h : c.deck.at < length c.args.deck.now = omega (arith, w.within, c.if-at-deck.false) in
    let part = to_end c.args.deck.now c.deck.at in
    ends _ _ c.begin-notes.auto.cells (not-ended w h _ part c.load_one.ensures c.in-Ok.is _ c.size_of-at.ensures c.if-t.true c.if-at-deck-2.true)
    (still_formed w h _ part c.load_one.ensures) tt

pub returns-then-not-can_start : goal.returns-then-not-can_start
returns-then-not-can_start c =
    let w = c.deck.invariant in
    let h : c.deck.at < length c.args.deck.now = omega (arith, w.within, c.if-at-deck.false) in
    let part = to_end c.args.deck.now c.deck.at in
    ends _ _ c.begin-notes.auto.cells
    (hopeless w h _ part c.load_one.ensures c.in-Ok.is _ c.size_of-at.ensures c.if-t.true c.if-at-deck-2.false
    (λ rs k l. sym c.if-not-can_start.true ∙ c.can_start.ensures rs k l))
    (still_formed w h _ part c.load_one.ensures) tt

pub returns-else-not-can_start : goal.returns-else-not-can_start
returns-else-not-can_start c =
    let w = c.deck.invariant in
    let h : c.deck.at < length c.args.deck.now = omega (arith, w.within, c.if-at-deck.false) in
    let part = to_end c.args.deck.now c.deck.at in
    ends _ _ c.begin-notes.auto.cells
    (completes w h _ part c.load_one.ensures c.in-Ok.is _ c.size_of-at.ensures c.if-t.true c.if-at-deck-2.false
    (λ rs k l. sym c.if-not-can_start.false ∙ c.can_start.ensures rs k l))
    (still_formed w h _ part c.load_one.ensures) (table_made w h _ part c.load_one.ensures c.in-Ok.is _ c.size_of-at.ensures)

pub deck-smaller : goal.deck-smaller
deck-smaller c =
    let w = c.deck.invariant in
    let h : c.deck.at < length c.args.deck.now = omega (arith, w.within, c.if-at-deck.false) in
    let part = to_end c.args.deck.now c.deck.at in
    let on = reads_on w h _ part c.load_one.ensures c.in-Ok.is _ c.size_of-at.ensures in
    omega (arith, on, further w h _ part c.load_one.ensures c.in-Ok.is _ c.size_of-at.ensures)

pub deck-preserved : goal.deck-preserved
deck-preserved c =
    let w = c.deck.invariant in
    let h : c.deck.at < length c.args.deck.now = omega (arith, w.within, c.if-at-deck.false) in
    let part = to_end c.args.deck.now c.deck.at in
    goes-round w h _ part c.load_one.ensures c.in-Ok.is _ c.size_of-at.ensures c.if-t.false c.load_one.auto.cells c.load_one.auto.names
