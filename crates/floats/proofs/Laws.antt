-- What the proofs of the functions cite: bits that may be taken for a number, and what an operation leaves.
use Rattle.paper.proofs.Kit.{◌≡◌, sym, ap, subst, ◌∙◌, refl, Bool, true, false, cond, not, ℕ}
use lib.Dec.{T}
use lib.Ieee.{Float, binary32, neg, lt, eq, fits, is_nan, nan_bits}
use lib.Ieee.Bits.{nan_bits_is, of_bits-to_bits}
use lib.Ieee.Scale.{finite}
use Rattle.std.specs.Prelude.{Option, Some, None, ◌==◌}
use Rattle.std.specs.Bool.{then_some}
use Rattle.std.specs.Option.{option_eq}
use Rattle.std.specs.Ordering.{ordering_index, float_partial_cmp}
use Rattle.std.specs.declared.cmp.Ordering.{Ordering}
use Rattle.std.specs.declared.cmp.Ordering.TheVariants.{Less, Equal, Greater}
use Rattle.std.proofs.lemmas.Float.{lt_irrefl, lt_trans, eq_flip, eq-not_lt}
use Rattle.paper.specs.Term.{float_of, bits_of, is_finite}
use Rattle.paper.proofs.FloatLaws.{Operates, sum-operates, difference-operates, Relates, equal-relates, above-relates, below-relates, finite_number, negated-finite}
use Rattle.floats.specs.Kept.{kept_if, kept_of, operation_of, relation_of}

-- a test that was answered, of what it was asked
pub answered : {r s t : Bool} → r ≡ s → r ≡ t → s ≡ t
answered e p = sym e ∙ p

no_nan : (b : Bool) → b ≡ false → T (not b)
no_nan b h = subst (λ (z : Bool). T (not z)) (sym h) tt

-- bits that are no NaN's may be taken for a number
pub pattern : (b : ℕ) → is_nan (float_of b) ≡ false → T (not (nan_bits binary32 b))
pattern b h = no_nan (nan_bits binary32 b) (nan_bits_is binary32 b ∙ h)

pub finite-pattern : (b : ℕ) → is_finite b ≡ true → T (not (nan_bits binary32 b))
finite-pattern b h = pattern b (finite_number (float_of b) h)

-- both operations, and all relations
pub operates : (minus : Bool) → Operates (operation_of minus).of_floats
operates true = difference-operates
operates false = sum-operates

pub relates : (k : Ordering) → Relates (relation_of k).of_floats
relates Equal = equal-relates
relates Greater = above-relates
relates Less = below-relates

-- what finite numbers give is no NaN
pub gives-number : (minus : Bool) (a b : ℕ) → is_finite a ≡ true → is_finite b ≡ true → T (not (is_nan ((operation_of minus).of_floats (float_of a) (float_of b))))
gives-number minus a b p q = no_nan _ ((operates minus).number (float_of a) (float_of b) p q)

pub negated-number : (b : ℕ) → is_finite b ≡ true → T (not (is_nan (neg (float_of b))))
negated-number b h = no_nan _ (finite_number (neg (float_of b)) (negated-finite (float_of b) ∙ h))

-- what is left, by the test on its bits
pub keeps : (x : Float) (t : Bool) → finite x ≡ t → then_some t (bits_of x) ≡ kept_of x
keeps x true e = sym (ap (λ (z : Bool). kept_if z x) e)
keeps x false e = sym (ap (λ (z : Bool). kept_if z x) e)

pub bits-tell : (x : Float) (t : Bool) → T (fits binary32 x) → is_finite (bits_of x) ≡ t → finite x ≡ t
bits-tell x t f e = sym (ap finite (of_bits-to_bits binary32 x f)) ∙ e

pub refuses : (x : Float) → finite x ≡ false → ◌≡◌ {A = Option ℕ} None (kept_of x)
refuses x h = keeps x false h

-- `partial_cmp` is k just where k's own test holds: no two of the tests hold of the same terms, and none of a NaN
abbrev pub is : Option Ordering → Ordering → Bool
is o k = option_eq (λ a b. ordering_index a == ordering_index b) o (Some k)

abbrev tested : Bool → Bool → Bool → Option Ordering
tested l e g = cond l (Some Less) (cond e (Some Equal) (cond g (Some Greater) None))

less : (l e g : Bool) → is (tested l e g) Less ≡ l
less true e g = refl
less false true g = refl
less false false true = refl
less false false false = refl

equal : (l e g : Bool) → (T e → T l → ⊥) → is (tested l e g) Equal ≡ e
equal true true g f = absurd (f tt tt)
equal true false g f = refl
equal false true g f = refl
equal false false true f = refl
equal false false false f = refl

greater : (l e g : Bool) → (T g → T l → ⊥) → (T g → T e → ⊥) → is (tested l e g) Greater ≡ g
greater true e true f h = absurd (f tt tt)
greater true e false f h = refl
greater false true true f h = absurd (h tt tt)
greater false true false f h = refl
greater false false true f h = refl
greater false false false f h = refl

pub compared : (k : Ordering) (x y : Float) → is (float_partial_cmp x y) k ≡ (relation_of k).of_floats x y
compared Less x y = less (lt x y) (eq x y) (lt y x)
compared Equal x y = equal (lt x y) (eq x y) (lt y x) (eq-not_lt x y)
compared Greater x y =
    greater (lt x y) (eq x y) (lt y x) (λ g l. lt_irrefl x (lt_trans x y x l g)) (λ g e. eq-not_lt y x (eq_flip x y e) g)
