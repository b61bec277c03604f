-- A loop with fuel: whatever the rest of it comes to, the whole comes to. And what is known where a reading was not refused.
use Rattle.paper.proofs.Kit.{ℕ, zero, suc, ◌<◌, ◌≤◌, ◌≡◌, refl, ap, subst, List, [], arith, length}
use Rattle.std.specs.Prelude.{Result, Ok}
use Rattle.paper.specs.declared.Refusal.{Refusal}
use Rattle.paper.specs.Cell.{State, Word, word_in}
use Rattle.paper.specs.Act.{Act, Res, own, sized}
use Rattle.paper.proofs.Safe.{Safe, After}
use Rattle.cells.specs.Bridge.{Rest, state_of, unpacked, cell_in}
use Rattle.cells.proofs.Store.{unpacked-length}
use Rattle.steps.specs.Follows.{Follows}
use Rattle.steps.specs.Follows as steps
use Rattle.steps.proofs.Sequence.{alike-here}
use Rattle.undo.specs.Did.{Always, reading}
use Rattle.structures.specs.Walks.{Gets}

-- as many turns as there are cells
pub sized_on : {A : Type 0} {K : Rest → Type 0} (f : ℕ → Act A) {s : List ℕ} {r : Result A Refusal} → Gets K (f (length s)) s r → Gets K (sized f) s r
unfolding sized
sized_on f {s} d = alike-here (λ e k. ap (λ n. f n (state_of e s)) (unpacked-length s)) d

abbrev nothing : Rest
nothing = record { regions = []; lines = []; room = 0 }

-- the word that was read stands in the cell
pub owned_by : (s : List ℕ) (c : ℕ) {w : Word} → steps.Sees reading Always (own c) s w → word_in (cell_in s c) ≡ w
unfolding own cell_in
owned_by s c d = let p = d.is nothing tt in cc

-- what holds wherever M is not refused holds of the value that was read
pub known : {A : Type 0} (M : Act A) (s : List ℕ) (v : A) (P : A → Type 0) (J : A → State → Type 0) → Safe (λ t. t.cells ≡ unpacked s) P J M
    → Follows reading Always 0 M s s (Ok v) → P v
known {A} M s v P J f d =
    let t = state_of nothing s in
    (subst (λ (r : Res State Refusal A). After r (λ a t. J a t × P a)) (d.is nothing tt) (f.at t refl)).1

-- whatever is shown of an answer here is shown of it at the start
abbrev Claim : Type 1
Claim = Result (List ℕ) Refusal → Type 0

abbrev Carries : Claim → Claim → Type 0
Carries here start = (r : Result (List ℕ) Refusal) → here r → start r

-- from the start, with z₀ cells without marks, the loop has come to `here`, with z
abbrev pub Leads : (ℕ → Claim) → ℕ → (ℕ → Claim) → ℕ → Type 0
Leads start z₀ here z = (f : ℕ) → z₀ < f → (g : ℕ) × (z < g) × Carries (here g) (start f)

pub leads-none : (start : ℕ → Claim) (z : ℕ) → Leads start z start z
leads-none start z f h = (f, h, λ r d. d)

module _ {start here : ℕ → Claim} {z₀ z : ℕ} (so : Leads start z₀ here z) where
  -- it ends here
  pub leads-end : (r : Result (List ℕ) Refusal) → ((k : ℕ) → z ≤ k → here (suc k) r) → (f : ℕ) → z₀ < f → start f r
  leads-end r e f h = go (so f h)
    where
      go : ((g : ℕ) × (z < g) × Carries (here g) (start f)) → start f r
      go (zero, l, p) = absurd (omega arith)
      go (suc k, l, p) = p r (e k (omega arith))

  -- it goes on to `there`
  pub leads-more : (there : ℕ → Claim) (z' : ℕ) → z' < z → ((k : ℕ) → z ≤ k → Carries (there k) (here (suc k))) → Leads start z₀ there z'
  leads-more there z' l e f h = go (so f h)
    where
      go : ((g : ℕ) × (z < g) × Carries (here g) (start f)) → ((g : ℕ) × (z' < g) × Carries (there g) (start f))
      go (zero, l', p) = absurd (omega arith)
      go (suc k, l', p) = (k, omega arith, λ r d. p r (e k (omega arith) r d))
