-- What `lib.Ieee` does not say of binary32 itself: which bits are a finite number's; that finite numbers give no NaN; that what is not finite stays so;
-- that no relation holds of a NaN.
use Rattle.paper.proofs.Kit.{◌≡◌, refl, sym, ap, ◌∙◌, Bool, true, false, not, cond, ◌&&◌, ℕ, zero, suc, ◌+◌, ◌-◌, ◌*◌, ◌/◌, ◌%◌, ◌^◌, ◌<◌, arith, dec_lt}
use Rattle.paper.proofs.Kit.{ltb, leb, eqb, lt-ltb, le-ltb, eq-eqb, ne_eqb, clash}
use mathlib.Core.Bool.{beq}
use lib.Ieee.{Float, nan, inf, fin, Format, binary32, prec, low, up, down, odd, units, round, sum, add, sub, neg, eq, lt, is_nan, of_fields, of_bits}
use lib.Ieee.Fits.{round_is}
use lib.Ieee.Scale.{finite, overflow}
use Rattle.paper.specs.Limits.{half_range}
use Rattle.paper.specs.Term.{is_finite, is_equal, is_above, is_below}

-- the bits of infinity, and of the exponent's unit
abbrev infinity : ℕ
infinity = 0x7F800000

abbrev unit : ℕ
unit = 0x800000

-- reading 9.1: the exponent's bits are not all ones
odd-finite : (d : ℕ) (s : Bool) (q k l : ℕ) → finite (odd d s q k l) ≡ true
unfolding odd
odd-finite d s zero k l = refl
odd-finite d s (suc q) k l = refl

unless-ones : (ones none s : Bool) (x : Float) → finite x ≡ true → finite (cond ones (cond none (inf s) nan) x) ≡ not ones
unless-ones true true s x h = refl
unless-ones true false s x h = refl
unless-ones false none s x h = h

fields-finite : (s : Bool) (e t : ℕ) → finite (of_fields binary32 s e t) ≡ not (eqb e 255)
unfolding of_fields
fields-finite s zero t = odd-finite 24 s t 0 149
fields-finite s (suc e) t = unless-ones (eqb (suc e) 255) (eqb t 0) s _ (odd-finite 24 s (unit + t) e 149)

exponent-finite : (b : ℕ) → is_finite b ≡ not (eqb (b % half_range / unit) 255)
unfolding of_bits
exponent-finite b = fields-finite (leb half_range b) (b % half_range / unit) (b % unit)

pub finite-below : (b : ℕ) → ltb (b % half_range) infinity ≡ is_finite b
finite-below b = go (b % half_range) (omega arith) ∙ sym (exponent-finite b)
  where
    cases : (m : ℕ) → m < half_range → Dec (m < infinity) → ltb m infinity ≡ not (eqb (m / unit) 255)
    cases m h (yes k) = lt-ltb m infinity k ∙ sym (ap not (ne_eqb (m / unit) 255 (λ e. omega arith)))
    cases m h (no k) = le-ltb m infinity (omega arith) ∙ sym (ap not (eq-eqb (m / unit) 255 (omega arith)))

    go : (m : ℕ) → m < half_range → ltb m infinity ≡ not (eqb (m / unit) 255)
    go m h = cases m h (dec_lt m infinity)

-- finite numbers give no NaN
odd_number : (d : ℕ) (s : Bool) (q k l : ℕ) → is_nan (odd d s q k l) ≡ false
unfolding odd is_nan
odd_number d s zero k l = refl
odd_number d s (suc q) k l = refl

either_number : (b : Bool) (x y : Float) → is_nan x ≡ false → is_nan y ≡ false → is_nan (cond b x y) ≡ false
either_number true x y h k = h
either_number false x y h k = k

units_number : (f : Format) (s : Bool) (q k : ℕ) → is_nan (units f s q k) ≡ false
unfolding units is_nan
units_number f s q k =
    either_number (ltb (q * 2 ^ k) (overflow f)) (odd (suc (prec f)) s q k (low f)) (inf s) (odd_number (suc (prec f)) s q k (low f)) refl

round_number : (f : Format) (s : Bool) (n d : ℕ) → is_nan (round f s n d) ≡ false
round_number f s n d = rw round_is (units_number f s _ _)

sum_number : (x y : Float) → finite x ≡ true → finite y ≡ true → is_nan (add binary32 x y) ≡ false
unfolding add sum
sum_number nan y p q = clash cc
sum_number (inf s) y p q = clash cc
sum_number (fin s m e) nan p q = clash cc
sum_number (fin s m e) (inf t) p q = clash cc
sum_number (fin s m e) (fin t n d) p q =
    let a = m * up e * down d in
    let b = n * up d * down e in
    let c = down e * down d in
    let over = round binary32 t (b - a) c in
    let under = round binary32 (s && ltb b a) (a - b) c in
    either_number (beq s t) (round binary32 s (a + b) c) (cond (ltb a b) over under) (round_number binary32 s (a + b) c)
    (either_number (ltb a b) over under (round_number binary32 t (b - a) c) (round_number binary32 (s && ltb b a) (a - b) c))

pub negated-finite : (x : Float) → finite (neg x) ≡ finite x
unfolding neg
negated-finite nan = refl
negated-finite (inf s) = refl
negated-finite (fin s m e) = refl

-- what is not finite stays so
infinite-sum : (b s : Bool) → finite (cond b (inf s) nan) ≡ false
infinite-sum true s = refl
infinite-sum false s = refl

sum_left : (x y : Float) → finite x ≡ false → finite (add binary32 x y) ≡ false
unfolding add
sum_left nan y h = refl
sum_left (inf s) nan h = refl
sum_left (inf s) (inf t) h = infinite-sum (beq s t) s
sum_left (inf s) (fin t n d) h = refl
sum_left (fin s m e) y h = clash cc

sum-right : (x y : Float) → finite y ≡ false → finite (add binary32 x y) ≡ false
unfolding add
sum-right nan y h = refl
sum-right (inf s) y h = sum_left (inf s) y refl
sum-right (fin s m e) nan h = refl
sum-right (fin s m e) (inf t) h = refl
sum-right (fin s m e) (fin t n d) h = clash cc

-- the same of a difference, which is the sum with the second negated (reading 9.3)
pub record Operates (f : Float → Float → Float) : Type 0 where
  pub number : (x y : Float) → finite x ≡ true → finite y ≡ true → is_nan (f x y) ≡ false
  pub left : (x y : Float) → finite x ≡ false → finite (f x y) ≡ false
  pub right : (x y : Float) → finite y ≡ false → finite (f x y) ≡ false

pub sum-operates : Operates (add binary32)
sum-operates = record { number = sum_number; left = sum_left; right = sum-right }

pub difference-operates : Operates (sub binary32)
unfolding sub
difference-operates =
    record {
      number = λ x y p q. sum_number x (neg y) p (negated-finite y ∙ q);
      left = λ x y h. sum_left x (neg y) h;
      right = λ x y h. sum-right x (neg y) (negated-finite y ∙ h);
    }

-- a finite number is no NaN
pub finite_number : (x : Float) → finite x ≡ true → is_nan x ≡ false
unfolding is_nan
finite_number nan h = clash cc
finite_number (inf s) h = clash cc
finite_number (fin s m e) h = refl

-- no relation holds of a NaN
nan_is : (x : Float) → is_nan x ≡ true → x ≡ nan
unfolding is_nan
nan_is nan h = refl
nan_is (inf s) h = clash cc
nan_is (fin s m e) h = clash cc

pub record Relates (r : Float → Float → Bool) : Type 0 where
  pub left : (x y : Float) → is_nan x ≡ true → r x y ≡ false
  pub right : (x y : Float) → is_nan y ≡ true → r x y ≡ false

nowhere : (r : Float → Float → Bool) → ((y : Float) → r nan y ≡ false) → ((x : Float) → r x nan ≡ false) → Relates r
nowhere r h k = record { left = λ x y e. ap (λ z. r z y) (nan_is x e) ∙ h y; right = λ x y e. ap (λ z. r x z) (nan_is y e) ∙ k x }

lt-nan : (x : Float) → lt x nan ≡ false
unfolding lt
lt-nan nan = refl
lt-nan (inf s) = refl
lt-nan (fin s m e) = refl

nan-lt : (y : Float) → lt nan y ≡ false
unfolding lt
nan-lt y = refl

eq-nan : (x : Float) → eq x nan ≡ false
unfolding eq
eq-nan nan = refl
eq-nan (inf s) = refl
eq-nan (fin s m e) = refl

nan_eq : (y : Float) → eq nan y ≡ false
unfolding eq
nan_eq y = refl

pub equal-relates : Relates is_equal.of_floats
equal-relates = nowhere eq nan_eq eq-nan

pub above-relates : Relates is_above.of_floats
above-relates = nowhere is_above.of_floats lt-nan nan-lt

pub below-relates : Relates is_below.of_floats
below-relates = nowhere lt nan-lt lt-nan
