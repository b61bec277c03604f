-- What CR 9 and its readings say of the two sorts of term, as laws of the definitions.
use Rattle.paper.proofs.Kit.{◌≡◌, refl, sym, ap, subst, ◌∙◌, [], ◌∷◌, map, Bool, true, false, not, cond, ℕ, zero, suc, ◌+◌, ◌-◌, ◌/◌, ◌%◌, ◌<◌, arith, ltb, leb, eqb}
use Rattle.paper.proofs.Kit.{lt-ltb, lt-leb, le-leb, ltb-true, ltb-false, clash}
use lib.Dec.{T}
use lib.Ieee.{Float, binary32, odd, neg, sub, inf, nan, of_fields, of_bits}
use lib.Ieee.Bits.{to_bits-of_bits}
use lib.Ieee.Scale.{finite}
use Rattle.paper.specs.Limits.{half_range}
use Rattle.paper.specs.Term.{Term, integer, floating, float_of, bits_of, is_finite, term_fits, alike, pair_of, floats, with_zero, Operation, plus, minus}
use Rattle.paper.specs.Term.{is_equal, is_above, is_below, combined, holds, negated, term_open}
use Rattle.paper.specs.Cell.{term, cell_at, State}
use Rattle.paper.specs.Act.{done, refused, ◌>>=◌, ◌>>◌, touch, as_term, term_at, WrongKind, prim_open}
use Rattle.paper.specs.Process.{pair_at}
use Rattle.paper.specs.Walk.{copied}
use Rattle.paper.proofs.SoundStore.{and-true}
use Rattle.paper.proofs.SoundTest.{and_both}
use Rattle.paper.proofs.FloatLaws.{negated-finite, finite_number}

-- "the term stored into takes the pair's sort"
pub takes-sort : (f : Operation) (t u : Term) → alike t u ≡ true → alike t (combined f (pair_of t u)) ≡ true
takes-sort f (integer a) (integer b) e = refl
takes-sort f (integer a) (floating b) e = clash cc
takes-sort f (floating a) (integer b) e = clash cc
takes-sort f (floating a) (floating b) e = refl

-- "a mixed pair is 23", when its second is met (reading 9.2); any other is taken
met : (s : State) (c : ℕ) (t : Term) → eqb c 0 ≡ false → cell_at s.cells c ≡ term t → term_at c s ≡ done t s
unfolding prim_open term_at as_term touch
met s c t z e = rw (z, e, e, e, ◌>>=◌, ◌>>◌)

module _ (s : State) (c d : ℕ) (t u : Term) (z : eqb c 0 ≡ false) (y : eqb d 0 ≡ false) (e : cell_at s.cells c ≡ term t) (f : cell_at s.cells d ≡ term u) where
  pub mixed-refused : alike t u ≡ false → pair_at c d s ≡ refused (WrongKind d)
  unfolding pair_at prim_open
  mixed-refused h = rw (met s c t z e, met s d u y f, h, ◌>>=◌, ◌>>◌)

  pub pair-taken : alike t u ≡ true → pair_at c d s ≡ done (pair_of t u) s
  unfolding pair_at prim_open
  pair-taken h = rw (met s c t z e, met s d u y f, h, ◌>>=◌, ◌>>◌)

-- reading 9.3: "J111 is (1) + (-(2))"
pub difference-is : (x y : Float) → minus.of_floats x y ≡ plus.of_floats x (neg y)
unfolding sub
difference-is x y = refl

-- "copied with its bits" (J74; J120 takes the term itself)
pub copied-same : (new : ℕ → ℕ) (t : Term) → copied new (term t) ≡ term t
unfolding copied
copied-same new t = refl

-- the sign bit turned
abbrev pub turned : ℕ → ℕ
turned b = cond (ltb b half_range) (b + half_range) (b - half_range)

odd_sign : (d : ℕ) (s : Bool) (q k l : ℕ) → odd d (not s) q k l ≡ neg (odd d s q k l)
unfolding odd neg
odd_sign d s zero k l = refl
odd_sign d s (suc q) k l = refl

either-sign : (a b s : Bool) (x y : Float) → y ≡ neg x → cond a (cond b (inf (not s)) nan) y ≡ neg (cond a (cond b (inf s) nan) x)
unfolding neg
either-sign true true s x y h = refl
either-sign true false s x y h = refl
either-sign false b s x y h = h

fields-sign : (s : Bool) (e t : ℕ) → of_fields binary32 (not s) e t ≡ neg (of_fields binary32 s e t)
unfolding of_fields
fields-sign s zero t = odd_sign 24 s t 0 149
fields-sign s (suc e) t = either-sign (eqb (suc e) 255) (eqb t 0) s _ _ (odd_sign 24 s (0x800000 + t) e 149)

-- bits that differ in the sign alone
sign-alone : (b c : ℕ) → leb half_range c ≡ not (leb half_range b) → c % half_range ≡ b % half_range → c % 0x800000 ≡ b % 0x800000 → float_of c ≡ neg (float_of b)
unfolding of_bits
sign-alone b c p q r = rw (p, q, r) (fields-sign (leb half_range b) (b % half_range / 0x800000) (b % 0x800000))

pub turned-is : (b : ℕ) → b < half_range + half_range → float_of (turned b) ≡ neg (float_of b)
turned-is b l = go (ltb b half_range) refl
  where
    go : (t : Bool) → ltb b half_range ≡ t → float_of (cond t (b + half_range) (b - half_range)) ≡ neg (float_of b)
    go true e =
        let h = ltb-true b half_range e in
        sign-alone b (b + half_range) (le-leb half_range (b + half_range) (omega arith) ∙ sym (ap not (lt-leb half_range b h))) (omega arith) (omega arith)
    go false e =
        let h = ltb-false b half_range e in
        sign-alone b (b - half_range) (lt-leb half_range (b - half_range) (omega arith) ∙ sym (ap not (le-leb half_range b h))) (omega arith) (omega arith)

turned-below : (b : ℕ) → b < half_range + half_range → turned b < half_range + half_range
turned-below b l = go (ltb b half_range) refl
  where
    go : (t : Bool) → ltb b half_range ≡ t → cond t (b + half_range) (b - half_range) < half_range + half_range
    go true e = let h = ltb-true b half_range e in omega arith
    go false e = omega arith

-- J123: "of a floating term the sign bit is turned", and a term that fits is never 29
module _ (b : ℕ) (h : term_fits (floating b) ≡ true) where
  parts : (ltb b (half_range + half_range) ≡ true) × (is_finite b ≡ true)
  parts = and-true (ltb b (half_range + half_range)) (is_finite b) h

  below : b < half_range + half_range
  below = ltb-true b (half_range + half_range) parts.0

  finite-turned : is_finite (turned b) ≡ true
  finite-turned = ap finite (turned-is b below) ∙ negated-finite (float_of b) ∙ parts.1

  pub negated-turned : negated (floating b) ≡ floating (turned b)
  negated-turned =
      ap floating (ap bits_of (sym (turned-is b below))
      ∙ to_bits-of_bits binary32 (turned b) (turned-below b below) (no_nan (finite_number (float_of (turned b)) finite-turned)))
    where
      no_nan : {t : Bool} → t ≡ false → T (not t)
      no_nan {t} e = subst (λ (z : Bool). T (not z)) (sym e) tt

  pub negated_fits : term_fits (negated (floating b)) ≡ true
  negated_fits = ap term_fits negated-turned ∙ and_both _ _ (lt-ltb (turned b) (half_range + half_range) (turned-below b below)) finite-turned

-- what the definitions compute: 1 is 3F800000, the largest number 7F7FFFFF, -0 80000000
abbrev sum : ℕ → ℕ → Term
sum a b = combined plus (floats a b)

abbrev difference : ℕ → ℕ → Term
difference a b = combined minus (floats a b)

-- half a unit more than 1 goes to the even number, 1; than the next number, up; less than half a unit more than the largest goes to that; denormal
-- results are kept; x - x is 0, -0 - 0 is -0, -0 + 0 is 0, -0 + -0 is -0 (reading 9.3); J123 of 0 is -0 (reading 9.4)
pub sums : (
    sum 0x3F800000 0x33800000 ∷ sum 0x3F800001 0x33800000 ∷ sum 0x7F7FFFFF 0x72FFFFFF ∷ difference 0x00800000 0x007FFFFF
    ∷ difference 0xC0490FDB 0xC0490FDB ∷ difference 0x80000000 0 ∷ sum 0x80000000 0 ∷ sum 0x80000000 0x80000000 ∷ negated (floating 0) ∷ [])
    ≡ map floating (
    0x3F800000 ∷ 0x3F800002 ∷ 0x7F7FFFFF ∷ 1
    ∷ 0 ∷ 0x80000000 ∷ 0 ∷ 0x80000000 ∷ 0x80000000 ∷ [])
unfolding term_open
sums = refl

-- "a result that is not finite is 29": half a unit more than the largest number
pub not_finite : term_fits (sum 0x7F7FFFFF 0x73000000) ≡ false
unfolding term_open
not_finite = refl

-- "-0 equals 0 in tests", and is neither above nor below it
pub zeros : map (λ r. holds r (with_zero (floating 0x80000000))) (is_equal ∷ is_above ∷ is_below ∷ []) ≡ true ∷ false ∷ false ∷ []
unfolding term_open
zeros = refl
