-- A cycle as a whole: what was accepted stands in cells and lines, what was refused in neither.
use Rattle.paper.proofs.Kit.{ℕ, ◌-◌, ◌≡◌, refl, sym, ap, subst, ◌∙◌, List, [], arith, length}
use Rattle.std.specs.Prelude.{Result, Ok, Err}
use Rattle.paper.specs.declared.Refusal.{Refusal}
use Rattle.paper.specs.Cell.{Region, State}
use Rattle.paper.specs.Act.{done, refused, ◌>>◌}
use Rattle.paper.specs.Cycle.{work, count, cycle}
use Rattle.paper.specs.Run.{continues, stops, alone, after_cycle}
use Rattle.cells.specs.Pack.{AllFormed}
use Rattle.cells.specs.Bridge.{state_of}
use Rattle.steps.specs.Follows.{outcome, seen_as}
use Rattle.regions.specs.Lent.{Tells}
use Rattle.undo.specs.Log.{rewind_of, Begun}
use Rattle.printing.specs.Telling.{Heard, after, line_in, end_of, Printing}
use Rattle.printing.proofs.PrintingLaws.{line-length, so_far, past-it}
use Rattle.cycle.specs.Turns.{state_at, cycled, Came, Counted, Settled, Settles}

-- a cycle whose step is done counts; one whose step is refused is refused
pub after-work : (s t : State) → work s ≡ done tt t → cycle s ≡ count t
unfolding cycle ◌>>◌
after-work s t e = rw (e, ◌>>◌)

pub no-work : (s : State) (z : Refusal) → work s ≡ refused z → cycle s ≡ refused z
unfolding cycle ◌>>◌
no-work s z e = rw (e, ◌>>◌)

module _ (rs : List Region) (d : List ℕ) (at : ℕ) where
  abbrev heard : Heard
  heard = record { regions = rs; room = length d - at }

  -- the state that a run hands to the cycle
  begins : (s : List ℕ) → alone (state_at rs s d at) ≡ state_of (after heard []) s
  begins s =
      let z : length d - at ≡ length d - at - length {A = ℕ} [] = omega arith in
      λ i. record { cells = (state_of (after heard []) s).cells; regions = rs; lines = []; room = z i }

module _ (rs : List Region) {t : List ℕ} (tells : Tells t rs) {k : ℕ} {s l s₁ l₁ : List ℕ} (d : List ℕ) (at : ℕ) (d' : List ℕ) where
  -- and what its step comes to
  comes : {e : Result ℕ Refusal} {r : Result (Unit {0}) Refusal} → Printing t k work (s, l) d at (s₁, l₁) d' e r
      → work (alone (state_at rs s d at)) ≡ outcome r (state_of (after (heard rs d at) (line_in d' at (end_of at e))) s₁)
  comes p = ap work (begins rs d at s) ∙ (p.follows rs tells).is (heard rs d at) (record { regions = refl; room = refl })

  accepted : (n : ℕ) (s₂ : List ℕ) → Printing t k work (s, l) d at (s₁, l₁) d' (Ok n) (Ok (tt {0})) → Counted s₁ s₂
      → cycled (state_at rs s d at) ≡ continues (state_at rs s₂ d' n)
  unfolding after_cycle
  accepted n s₂ p q =
      let v = after (heard rs d at) (line_in d' at n) in
      let u = state_of v s₁ in
      let c : cycle (alone (state_at rs s d at)) ≡ done tt (state_of v s₂) = after-work _ u (comes p) ∙ q.is v in
      let m : length d - at - length (line_in d' at n) ≡ length d' - n = omega
      (arith, line-length d at d' (Ok n) p.stands, p.stands.sized, p.stands.starts) in
      ap (after_cycle (state_at rs s d at)) c
      ∙ (λ i. continues (state_of (record { regions = rs; lines = sym (so_far d at d' (Ok n) p.stands) i; room = m i }) s₂))

  stopped : (e : Refusal) → Printing t k work (s, l) d at (s₁, l₁) d' (Err e) (Err e) → cycled (state_at rs s d at) ≡ stops e
  unfolding after_cycle
  stopped e p = ap (after_cycle (state_at rs s d at)) (no-work _ e (comes p))

  module _ (begun : Begun s l) (s₂ : List ℕ) where
    back : {e : Result ℕ Refusal} {r : Result (Unit {0}) Refusal} → Printing t k work (s, l) d at (s₁, l₁) d' e r → s₂ ≡ rewind_of l₁ s₁ → s₂ ≡ s
    back p q = q ∙ (p.follows rs tells).kept.back ∙ begun.back

    pub came : (e : Result ℕ Refusal) → Printing t k work (s, l) d at (s₁, l₁) d' e (seen_as (λ _. tt {0}) e) → (r : Result ℕ Refusal)
        → Settles e l₁ s₁ s₂ r → Came rs s d at s₂ d' r
    unfolding Settled Came
    came (Ok n) p r q =
        subst (Came rs s d at s₂ d') (sym q.same)
        (accepted n s₂ p q.settled, p.stands.starts, p.stands.ends, past-it d at d' (Ok n) p.stands)
    came (Err e) p r q = subst (Came rs s d at s₂ d') (sym q.same) (stopped e p, back p q.settled, p.stands.unchanged e refl)

    pub stays-formed : (e : Result ℕ Refusal) → Printing t k work (s, l) d at (s₁, l₁) d' e (seen_as (λ _. tt {0}) e) → {r : Result ℕ Refusal}
        → Settles e l₁ s₁ s₂ r → AllFormed s → AllFormed s₂
    unfolding Settled
    stays-formed (Ok n) p q f = q.settled.formed ((p.follows rs tells).kept.formed f)
    stays-formed (Err e) p q f = subst AllFormed (sym (back p q.settled)) f
