-- Steps 2 and 3 from their parts.
use Rattle.paper.proofs.Kit.{ℕ, ◌≤◌, ◌≡◌, refl, sym, subst, List, [], eq-eqb, ne_eqb, length, get_or}
use Rattle.std.specs.Prelude.{Result, Ok, Err}
use Rattle.std.specs.Result.{result_and}
use Rattle.paper.specs.declared.Refusal.{Refusal}
use Rattle.paper.specs.Cell.{H, Word}
use Rattle.paper.specs.Act.{own}
use Rattle.paper.specs.Cycle.{ascend, interpret, work}
use Rattle.steps.specs.Follows.{Follows, seen_as}
use Rattle.steps.specs.Follows as steps
use Rattle.steps.proofs.Sequence.{sees, yes, else, any-sees}
use Rattle.undo.specs.Did.{Always, Top, reading, lent}
use Rattle.undo.proofs.Lines.{looks}
use Rattle.printing.specs.Telling.{Printing}
use Rattle.printing.proofs.TellingLaws.{quietly-sees}
use Rattle.cycle.proofs.PartLaws.{part-quiet, part-as}

module _ (t : List ℕ) {s l : List ℕ} {h : Word} (o : steps.Sees reading Always (own (H 1)) s h) where
  -- step 2 prints nothing: the lines end where they ended, unless it is refused
  pub ascends : (d : List ℕ) (at : ℕ) {k top : ℕ} {y : List ℕ × List ℕ} → at ≤ length d → (r : Result (Unit {0}) Refusal) {e : Result ℕ Refusal}
      → e ≡ result_and r (Ok at) → top ≡ get_or t 0 0 → h.symb ≡ 0 → Follows lent (Top top) k ascend (s, l) y r
      → Printing t k work (s, l) d at y d e (seen_as (λ _. tt {0}) e)
  unfolding work
  ascends d at {k} {y = y} within (Ok u) p ends z f =
      subst (λ e. Printing t k work (s, l) d at y d e (seen_as (λ _. tt {0}) e)) (sym p)
      (part-quiet t d at within (Ok at) refl ends (looks _ (any-sees o) (yes _ (eq-eqb h.symb 0 z) f)))
  ascends d at {k} {y = y} within (Err c) p ends z f =
      subst (λ e. Printing t k work (s, l) d at y d e (seen_as (λ _. tt {0}) e)) (sym p)
      (part-quiet t d at within (Err c) refl ends (looks _ (any-sees o) (yes _ (eq-eqb h.symb 0 z) f)))

  pub goes : {k : ℕ} {d : List ℕ} {at : ℕ} {y : List ℕ × List ℕ} {d' : List ℕ} {e : Result ℕ Refusal} {r : Result (Unit {0}) Refusal} → (h.symb ≡ 0 → ⊥)
      → Printing t k (interpret h.symb) (s, l) d at y d' e r → Printing t k work (s, l) d at y d' e r
  unfolding work
  goes n p = part-as p (λ rs w line q. sees _ (quietly-sees [] (λ e h. tt) o) (else _ (ne_eqb h.symb 0 n) q))
