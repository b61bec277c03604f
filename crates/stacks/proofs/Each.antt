-- The loop over W0 to Wn against the recursion `each_w`.
use Rattle.std.specs.Prelude.{Ok, Err}
use Rattle.paper.proofs.Kit.{ℕ, zero, suc, ◌+◌, ◌-◌, ◌*◌, ◌≤◌, ◌≡◌, ap, ◌∙◌, sym, List, mul-suc, add-one, arith}
use Rattle.paper.specs.declared.Refusal.{Refusal}
use Rattle.paper.specs.Cell.{W}
use Rattle.paper.specs.Act.{Act, ◌>>◌, ret}
use Rattle.paper.specs.Process.{each_w}
use Rattle.cells.specs.Bridge.{Rest}
use Rattle.steps.specs.Follows.{Follows}
use Rattle.steps.proofs.Steps.{then-then}
use Rattle.steps.proofs.Sequence.{then, then_err, alike, most, give}
use Rattle.undo.specs.Did.{lent}

-- the first i of them
unfoldable pub first_w : ℕ → (ℕ → Act (Unit {0})) → Act (Unit {0})
first_w zero f = ret tt
first_w (suc i) f = first_w i f >> f (W i)

-- all of them are the first, and those from there on
first_on : (f : ℕ → Act (Unit {0})) (i m : ℕ) → (first_w i f >> each_w i m f) ≡ each_w 0 (i + m) f
unfolding first_w each_w ret ◌>>◌
first_on f zero m = let p : 0 + m ≡ m = omega arith in rw p
first_on f (suc i) m =
    let p : suc i + m ≡ i + suc m = omega arith in
    rw p (then-then (first_w i f) (f (W i)) (each_w (suc i) m f) ∙ first_on f i (suc m))

pub all_first : (f : ℕ → Act (Unit {0})) (n : ℕ) → first_w (suc n) f ≡ each_w 0 n f
unfolding first_w each_w
all_first f n = let p : n ≡ n + 0 = omega arith in first_on f n 0 ∙ ap (λ (k : ℕ). each_w 0 k f) (sym p)

-- the next of them is refused, and none comes after it
stops : (f : ℕ → Act (Unit {0})) (i m : ℕ) {K : Rest → Type 0} {j : ℕ} {x y : List ℕ × List ℕ} {c : Refusal}
    → Follows lent K j (f (W i)) x y (Err c) → Follows lent K j (each_w i m f) x y (Err c)
unfolding each_w
stops f i zero d = d
stops f i (suc m) d = then_err (each_w (suc i) m f) d

module _ (f : ℕ → Act (Unit {0})) (j : ℕ) {K : Rest → Type 0} {x : List ℕ × List ℕ} where
  -- none is done; one more is done, with j writes each; the last of them; one that is refused, and none after it
  pub each_start : Follows lent K (j * 0) (first_w 0 f) x x (Ok tt)
  unfolding first_w
  each_start = most (j * 0) (omega arith) give

  module _ (i : ℕ) {y z : List ℕ × List ℕ} where
    pub each_more : Follows lent K (j * i) (first_w i f) x y (Ok tt) → Follows lent K j (f (W i)) y z (Ok tt)
        → Follows lent K (j * (i + 1)) (first_w (i + 1) f) x z (Ok tt)
    unfolding first_w
    each_more d e = rw add-one (most (j * suc i) (omega (arith, mul-suc j i)) (then d e))

    pub each_end : {n : ℕ} → i ≡ n → Follows lent K (j * i) (first_w i f) x y (Ok tt) → Follows lent K j (f (W i)) y z (Ok tt)
        → Follows lent K (j * suc i) (each_w 0 n f) x z (Ok tt)
    each_end p d e = alike (all_first f i ∙ ap (λ (k : ℕ). each_w 0 k f) p) (rw (sym (add-one i)) (each_more d e))

    pub each_stops : {n : ℕ} {c : Refusal} → i ≤ n → Follows lent K (j * i) (first_w i f) x y (Ok tt) → Follows lent K j (f (W i)) y z (Err c)
        → Follows lent K (j * suc i) (each_w 0 n f) x z (Err c)
    each_stops {n} p d e =
        most (j * suc i) (omega (arith, mul-suc j i))
        (alike (first_on f i (n - i) ∙ ap (λ (k : ℕ). each_w 0 k f) (omega arith)) (then d (stops f i (n - i) e)))
