use Rattle.deck.proofs.ReadLaws.{stops, unknown, cut_off, whole, not_written, placed-whole}
use Rattle.deck.proofs.LoopLaws.{lettered}
use Rattle.records.specs.Symbols.{Written, option_of, record_of}
use Rattle.std.specs.Prelude.{Option, None, option_map, Err}
use Rattle.std.specs.Option.{ok_or}
use Rattle.records.specs.declared.Record.{Record}
use Rattle.paper.specs.declared.Fault.{Fault}
use Rattle.paper.specs.declared.Fault.TheVariants.{BadField}
use Rattle.paper.specs.Record.{size_of, record_at}
use Rattle.steps.proofs.Sequence.{same_err}
use Rattle.deck.proofs.RecordLaws.{placed-to}
use Rattle.records.proofs.Laws.{all-symbols}
use Rattle.paper.proofs.Kit.{ℕ, List, ◌≡◌, ap, sym, subst, ◌∙◌, arith}
use Rattle.deck.proofs.load_one.Goals as goal

pub returns-then-size-eq0 : goal.returns-then-size-eq0
returns-then-size-eq0 c =
    stops (unknown _ _ _ _ (sym c.size_of-size.ensures ∙ c.if-size-eq0.true)) c.requires.0

pub returns-then-r-size : goal.returns-then-r-size
returns-then-r-size c =
    stops (cut_off _ _ _ _ (λ z. c.if-size-eq0.false (c.size_of-size.ensures ∙ z)) (omega (arith, c.if-r-size.true, c.size_of-size.ensures))) c.requires.0

pub parse-requires : goal.parse-requires
parse-requires c =
    let all = all-symbols c.args.r.now c.args.kind c.requires.2 (λ z. c.if-size-eq0.false (c.size_of-size.ensures ∙ z))
    (omega (arith, c.if-r-size.false, c.size_of-size.ensures)) in
    (c.requires.2, subst (Written _ _ _) all c.requires.3)

-- what the record comes to, as it was parsed
parsed : {o p : Option Record} (r : List ℕ) → option_of (option_map record_of o) ≡ record_at r → o ≡ p → record_at r ≡ option_of (option_map record_of p)
parsed r e p = sym e ∙ ap (λ o. option_of (option_map record_of o)) p

bad : {o : Option Record} {f : Fault} → Err f ≡ ok_or o BadField → o ≡ None → f ≡ BadField
bad e p = let g : Err _ ≡ Err BadField = e ∙ ap (λ o. ok_or o BadField) p in cc

pub load_record-requires : goal.load_record-requires
load_record-requires c =
    let h = c.in_ok-x.ensures in
    (c.requires.0, c.requires.1, lettered c.in_ok-x.x _ (sym (parsed _ c.parse.ensures h.ok_part)))

pub returns-in_err-x : goal.returns-in_err-x
returns-in_err-x c =
    let h = c.in_err-x.ensures in
    let n : size_of c.args.kind ≡ 0 → ⊥ = λ z. c.if-size-eq0.false (c.size_of-size.ensures ∙ z) in
    placed-to (same_err c.from_residual.ensures.1 ∙ ap (λ f. Err f) (bad h.value h.ok_part))
    (stops (whole _ _ _ _ n (omega (arith, c.if-r-size.false, c.size_of-size.ensures)) ∙ not_written _ _ _ (parsed _ c.parse.ensures h.ok_part)) c.requires.0)

pub returns : goal.returns
returns c =
    let h = c.in_ok-x.ensures in
    placed-whole _ _ _ _ (λ z. c.if-size-eq0.false (c.size_of-size.ensures ∙ z)) (omega (arith, c.if-r-size.false, c.size_of-size.ensures))
    (parsed _ c.parse.ensures h.ok_part) c.load_record.ensures
