-- The arithmetic of the tally: so many more, wrapped.
use Rattle.paper.proofs.Kit.{◌≡◌, refl, ap, ◌∙◌, ℕ, zero, suc, ◌+◌, ◌-◌, ◌<◌, arith, clash, true, ℤ, pos, negsuc, ◌+ℤ◌, +ℤ_one, +ℤ_assoc, +ℤ_idr, suc_ℤ, mag}
use Rattle.paper.specs.Limits.{half_range}
use Rattle.paper.specs.Cell.{Term, integer, floating, is_integer, integer_in}
use Rattle.paper.specs.Cycle.{wrapped, one_more}
use Rattle.paper.proofs.SoundStore.{TermRange}

-- "wrapping to 0 after 2,147,483,647", and not before
pub wraps : wrapped (pos (half_range - 1) +ℤ pos 1) ≡ pos 0
wraps = refl

pub not-before : (n : ℕ) → suc n < half_range → wrapped (pos n +ℤ pos 1) ≡ pos (suc n)
not-before n h = ap pos (omega arith)

-- what is within 32 bits stays as it is
pub wrapped-is : (z : ℤ) → mag z < half_range → wrapped z ≡ z
wrapped-is (pos n) h = ap pos (omega arith)
wrapped-is (negsuc n) h = refl

wrapped-more : (z : ℤ) (k : ℕ) → wrapped (wrapped z +ℤ pos k) ≡ wrapped (z +ℤ pos k)
wrapped-more (pos n) k = ap pos (omega arith)
wrapped-more (negsuc n) k = refl

-- the count k cycles later
abbrev pub later : ℕ → Term → Term
later k t = integer (wrapped (integer_in t +ℤ pos k))

pub later-none : (t : Term) → is_integer t ≡ true → TermRange t → later 0 t ≡ t
later-none (integer z) e h = ap integer (ap wrapped (+ℤ_idr z) ∙ wrapped-is z h)
later-none (floating b) e h = clash cc

pub later_more : (k : ℕ) (t : Term) → later k (one_more t) ≡ later (suc k) t
later_more k t = let z = integer_in t in ap integer (wrapped-more (z +ℤ pos 1) k ∙ ap wrapped (+ℤ_assoc z (pos 1) (pos k) ∙ ap (λ m. z +ℤ pos m) e))
  where
    e : 1 + k ≡ suc k
    e = omega arith

-- one more is within 32 bits again
pub one_later : (t : Term) → is_integer t ≡ true → TermRange t → TermRange (one_more t)
one_later (floating b) e h = clash cc
one_later (integer z) e h = rw (+ℤ_one z) (go z h)
  where
    go : (z : ℤ) → mag z < half_range → mag (wrapped (suc_ℤ z)) < half_range
    go (pos n) h = omega arith
    go (negsuc zero) h = omega arith
    go (negsuc (suc n)) h = omega arith
