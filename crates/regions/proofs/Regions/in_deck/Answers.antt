use Rattle.std.proofs.lemmas.Slice.Zip.{zip_turn, zip_end}
use Rattle.regions.proofs.RegionLaws.{end_more}
use Rattle.regions.proofs.CellLaws.{pair_at, more-fits, deck-here, deck-none, deck-more}
use Rattle.paper.proofs.Kit.{ℕ, take, refl, sym, ◌∙◌, ◌≤◌, length, arith, rules}
use Rattle.std.proofs.lemmas.List.{length-take, length_push}
use Rattle.regions.specs.Table.{regions_of}
use Rattle.regions.proofs.Regions.in_deck.Goals as goal

pub loop-letter-init : goal.loop-letter-init
loop-letter-init c = (search rules, refl, refl)

pub inside-requires : goal.inside-requires
inside-requires c =
    let l = c.loop-letter in
    let r = c.args.self in
    let n = c.next in
    let s = c.into_iter-letter-iterator.result in
    let t = zip_turn r.letters (take c.len.result r.counts) l.yielded s l.letter-iterator n.new.self _ (cc) (cc) l.yielded_by _ c.in-Some.is n.ensures.steps in
    let p = pair_at r _ _ _ _ c.len.ensures.0 t in
    omega (arith, more-fits r _ p.here l.from _ p.count (omega (arith, c.requires.ends, l.invariant.1)))

pub returns-then-letter-b : goal.returns-then-letter-b
returns-then-letter-b c =
    let l = c.loop-letter in
    let r = c.args.self in
    let n = c.next in
    let s = c.into_iter-letter-iterator.result in
    let t = zip_turn r.letters (take c.len.result r.counts) l.yielded s l.letter-iterator n.new.self _ (cc) (cc) l.yielded_by _ c.in-Some.is n.ensures.steps in
    let p = pair_at r _ _ _ _ c.len.ensures.0 t in
    c.inside.ensures ∙ sym (deck-here r _ p.here l.from _ c.args.b c.args.n p.count (sym p.letter ∙ c.if-letter-b.true)) ∙ l.invariant.2

pub overflow_add-from : goal.overflow_add-from
overflow_add-from c =
    let l = c.loop-letter in
    let r = c.args.self in
    let n = c.next in
    let s = c.into_iter-letter-iterator.result in
    let t = zip_turn r.letters (take c.len.result r.counts) l.yielded s l.letter-iterator n.new.self _ (cc) (cc) l.yielded_by _ c.in-Some.is n.ensures.steps in
    let p = pair_at r _ _ _ _ c.len.ensures.0 t in
    record { fits = omega (arith, more-fits r _ p.here l.from _ p.count (omega (arith, c.requires.ends, l.invariant.1))) }

pub loop-letter-preserved : goal.loop-letter-preserved
loop-letter-preserved c =
    let l = c.loop-letter in
    let r = c.args.self in
    let n = c.next in
    let s = c.into_iter-letter-iterator.result in
    let t = zip_turn r.letters (take c.len.result r.counts) l.yielded s l.letter-iterator n.new.self _ (cc) (cc) l.yielded_by _ c.in-Some.is n.ensures.steps in
    let p = pair_at r _ _ _ _ c.len.ensures.0 t in
    rw (length_push l.yielded) (
      more-fits r _ p.here l.from _ p.count (omega (arith, c.requires.ends, l.invariant.1)),
      end_more r _ p.here l.from _ p.count ∙ l.invariant.1,
      deck-more r _ p.here l.from _ c.args.b c.args.n p.count (λ e. c.if-letter-b.false (p.letter ∙ e)) ∙ l.invariant.2,
    )

pub returns : goal.returns
returns c =
    let l = c.loop-letter in
    let r = c.args.self in
    let n = c.next in
    let s = c.into_iter-letter-iterator.result in
    let e = zip_end r.letters (take c.len.result r.counts) l.yielded s l.letter-iterator n.new.self _ (cc) (cc) l.yielded_by c.in-None.is n.ensures.steps in
    let past : length (regions_of r) ≤ length l.yielded = omega (arith, length-take {A = ℕ}) in
    sym (deck-none r (length l.yielded) l.from c.args.b c.args.n past) ∙ l.invariant.2
