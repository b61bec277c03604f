-- "Then by P": an operation after which control goes on, by its number; and the last, which branches.
use Rattle.paper.proofs.Kit.{ℕ, ◌<◌, ◌≤◌, ◌≡◌, sym, ap, ◌∙◌, false, [], ◌∷◌, arith, ne_eqb, eqb}
use Rattle.std.specs.Prelude.{Result, Ok, Err}
use Rattle.paper.specs.declared.Refusal.{Refusal}
use Rattle.paper.specs.declared.Symbol.{Symbol}
use Rattle.paper.specs.Cell.{State}
use Rattle.paper.specs.Act.{Act, choose}
use Rattle.paper.specs.Cycle.{goes_on, after, branch, operate}
use Rattle.steps.specs.Follows.{World, Follows, seen_as}
use Rattle.steps.proofs.Rest.{Rest}
use Rattle.steps.proofs.Sequence.{then, then_err, give, alike, most, under}

module _ {W : World State Refusal} {K J : W.Rest → Type 0} {y z : W.Held} {k i : ℕ} where
  pub operates : (p n : ℕ) (x : Symbol) {M : Act (Unit {0})} (r : Result (Unit {0}) Refusal) → p ≡ n → after M ≡ operate n x → k ≤ i
      → ((e : W.Rest) → K e → J e) → Follows W J k M y z r → Follows W K i (operate p x) y z (seen_as (λ _. goes_on) r)
  unfolding after
  operates p n x (Ok v) e f h w d = alike (f ∙ ap (λ j. operate j x) (sym e)) (most i (omega arith) (then (under w d) give))
  operates p n x (Err c) e f h w d = alike (f ∙ ap (λ j. operate j x) (sym e)) (most i (omega arith) (then_err _ (under w d)))

pub branches : (p : ℕ) (x : Symbol) → 6 < p → branch x ≡ operate p x
unfolding operate choose
branches p x h =
    let no : (k : ℕ) → k ≤ 6 → eqb p k ≡ false = λ k g. ne_eqb p k (λ e. omega (arith, h, g, e)) in
    rw (no 0 (omega arith), no 1 (omega arith), no 2 (omega arith), no 3 (omega arith), no 4 (omega arith), no 5 (omega arith), no 6 (omega arith))

-- of P 1 to 6 the last arm has what the others leave
pub the-sixth : (p : ℕ) → 1 ≤ p → p ≤ 6 → Rest (Unit {0}) (1 ∷ 2 ∷ 3 ∷ 4 ∷ 5 ∷ []) p → p ≡ 6
the-sixth p l h r =
    let a : 2 ≤ p = let z = r.0.0.0.0.1 in omega arith in
    let b : 3 ≤ p = let z = r.0.0.0.1 in omega arith in
    let d : 4 ≤ p = let z = r.0.0.1 in omega arith in
    let e : 5 ≤ p = let z = r.0.1 in omega arith in
    let f : 6 ≤ p = let z = r.1 in omega arith in
    omega (arith, f, h)
