-- `execute` past all J1: a refusal, a process by its family, or a descent.
use Rattle.paper.proofs.Kit.{ℕ, ◌+◌, ◌-◌, ◌≤◌, ◌≡◌, refl, sym, ap, ◌∙◌, ◌≢◌, true, false, true≢false, List, [], arith}
use Rattle.paper.proofs.Kit.{eq-eqb, length, get_or}
use Rattle.std.specs.Prelude.{Result, Ok, Err}
use Rattle.paper.specs.declared.Refusal.{Refusal}
use Rattle.paper.specs.declared.Symbol.{Symbol}
use Rattle.paper.specs.Cell.{Cell, State, J, is_process}
use Rattle.paper.specs.Act.{done, touch, not_own}
use Rattle.paper.proofs.Handed.{when-done}
use Rattle.paper.proofs.ReadLaws.{r-touch}
use Rattle.paper.specs.Process.{then as and_then, goes_on, perform}
use Rattle.paper.specs.Cycle.{Control, goes_on as on, descend, finish, performs, execute, executes}
use Rattle.cells.specs.Bridge.{Rest, state_of, cell_in}
use Rattle.steps.specs.Follows.{Follows, seen_as}
use Rattle.steps.specs.Follows as steps
use Rattle.steps.proofs.Sequence.{Judged, bind, bind_err, test, test_err, yes, else, any, give, most}
use Rattle.undo.specs.Did.{Always, reading, lent}
use Rattle.undo.proofs.Lines.{reads, reads_err}
use Rattle.printing.specs.Telling.{end_of, Printing}
use Rattle.printing.proofs.TellingLaws.{quietly-reads}
use Rattle.cycle.specs.Reaches.{Left}
use Rattle.cycle.proofs.ReachLaws.{reach-follows}
use Rattle.cycle.proofs.PartLaws.{told-top, part-quiet, part-as, reach-quietly}

somewhere : Rest
somewhere = record { regions = []; lines = []; room = 0 }

-- what a touch gives is the cell
touched : (s : List ℕ) (c : ℕ) (y : Cell) → touch c (state_of somewhere s) ≡ done y (state_of somewhere s) → y ≡ cell_in s c
unfolding cell_in
touched s c y e = (when-done (r-touch c) (state_of somewhere s) (state_of somewhere s) y refl e).1.0

module _ (t : List ℕ) {x : Symbol} {s l s₁ l₁ : List ℕ} {g : Symbol} {top : ℕ} (ends : top ≡ get_or t 0 0) (p : Left top x s l s₁ l₁ g) where
  -- the cell may not be touched, or is the machine's own
  module _ (d : List ℕ) (at : ℕ) (k : ℕ) (within : at ≤ length d) (h : length s + 1 ≤ k) {c : Refusal} where
    pub untouched : Follows reading Always 0 (touch g.num) s₁ s₁ (Err c) → Printing t k (executes x) (s, l) d at (s₁, l₁) d (Err c) (Err c)
    unfolding execute
    untouched m = part-quiet t d at within (Err c) refl ends (most k (omega arith) (reach-follows p.reaches (reads_err {j = 0} _ (any m))))

    pub is_own : {y : Cell} → Follows reading Always 0 (touch g.num) s₁ s₁ (Ok y) → Judged {S = State} steps.Always (not_own g.num) (Err c)
        → Printing t k (executes x) (s, l) d at (s₁, l₁) d (Err c) (Err c)
    unfolding execute
    is_own m own =
        part-quiet t d at within (Err c) refl ends (most k (omega arith) (reach-follows p.reaches (reads _ (any m) (test_err {k = 0} _ own))))

  module _ {y : Cell} (m : Follows reading Always 0 (touch g.num) s₁ s₁ (Ok y)) (own : Judged {S = State} steps.Always (not_own g.num) (Ok tt)) where
    pub descended : (d : List ℕ) (at : ℕ) (k : ℕ) → at ≤ length d → length s + 2 ≤ k → is_process y ≡ false → {z : List ℕ × List ℕ}
        (e : Result ℕ Refusal) → end_of at e ≡ at → {r : Result Control Refusal} → Follows lent Always 1 (descend g) (s₁, l₁) z r
        → Printing t k (executes x) (s, l) d at z d e r
    unfolding execute
    descended d at k within h n e ended f =
        part-quiet t d at within e ended ends
        (most k (omega arith) (reach-follows p.reaches (reads _ (any m) (test own (else _ n (any f))))))

    -- a process: control goes on after it
    pub performed : (n k : ℕ) {j : ℕ} {d : List ℕ} {at : ℕ} {z : List ℕ × List ℕ} {d' : List ℕ} (e : Result ℕ Refusal) → length s + 1 + j ≤ k
        → is_process y ≡ true → n ≡ g.num - J 0
        → Printing t j (perform n) (s₁, l₁) d at z d' e (seen_as (λ _. and_then goes_on) e)
        → Printing t k (executes x) (s, l) d at z d' e (seen_as (λ _. on) e)
    unfolding execute performs finish
    performed n k (Ok end) h b q f =
        part-as f
        (λ rs w line c. most k (omega arith) (reach-follows (reach-quietly [] (told-top [] w ends) p.reaches)
        (bind _ (quietly-reads [] (λ e h. tt) m) (test own (yes _ b (bind (finish (λ z. execute p.turns z)) (rw q at c) give))))))
    performed n k (Err z) h b q f =
        part-as f
        (λ rs w line c. most k (omega arith) (reach-follows (reach-quietly [] (told-top [] w ends) p.reaches)
        (bind _ (quietly-reads [] (λ e h. tt) m) (test own (yes _ b (bind_err (finish (λ z. execute p.turns z)) (rw q at c)))))))

    -- it is not J1
    pub not-one : (n : ℕ) → is_process y ≡ true → n ≡ g.num - J 0 → n ≢ 1
    not-one n b q z =
        let c : g.num ≡ J 1 = omega arith in
        let h : is_process (cell_in s₁ g.num) ≡ true = ap is_process (sym (touched s₁ g.num y (m.is somewhere tt))) ∙ b in
        true≢false (sym (rw (eq-eqb g.num (J 1) c, h) refl) ∙ p.other)
