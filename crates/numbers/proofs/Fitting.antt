-- What an operation gives, by its sort, and what is put of it.
use Rattle.paper.proofs.Kit.{ℕ, ◌+◌, ◌^◌, ◌<◌, Bool, true, false, ◌≡◌, refl, ap, ◌∙◌, subst, clash, arith, lt-ltb}
use lib.Dec.{T}
use lib.Ieee.{Float, binary32, fits}
use lib.Ieee.Bits.{of_bits-to_bits, to_bits-lt}
use lib.Ieee.Fits.{add-fits, sub-fits}
use lib.Ieee.Scale.{finite}
use Rattle.paper.specs.Term.{Term, floating, bits_of as bits_of_float, term_fits}
use Rattle.cells.specs.Layout.{sort_of, bits_of, term_of}
use Rattle.cells.specs.Pack.{Packs}
use Rattle.paper.specs.Cell.{term}
use Rattle.std.specs.Prelude.{Option, Some, None, Ok, Err}
use Rattle.std.specs.Option.{ok_or, option_map}
use Rattle.paper.specs.declared.Refusal.{Refusal}
use Rattle.floats.specs.Kept.{kept_if, kept_of, operation_of}
use Rattle.numbers.specs.Family.{Gives}

-- a floating term: its bits are finite where the number is
module _ (x : Float) (f : T (fits binary32 x)) where
  bits_fit : term_fits (floating (bits_of_float x)) ≡ finite x
  bits_fit = rw (lt-ltb (bits_of_float x) (2 ^ 32) (to_bits-lt binary32 x f)) (ap finite (of_bits-to_bits binary32 x f))

  pub kept-gives : (k : Option ℕ) → k ≡ kept_of x → Gives (option_map (λ b. 2 ^ 32 + b) k) (floating (bits_of_float x))
  kept-gives k e = rw e (go (finite x) refl)
    where
      go : (t : Bool) → finite x ≡ t → Gives (option_map (λ b. 2 ^ 32 + b) (kept_if t x)) (floating (bits_of_float x))
      go true h =
          let b = bits_of_float x in
          let below : b < 2 ^ 32 = to_bits-lt binary32 x f in
          let s : sort_of (2 ^ 32 + b) ≡ 1 = omega arith in
          let i : bits_of (2 ^ 32 + b) ≡ b = omega arith in
          (rw (s, i) refl, bits_fit ∙ h)
      go false h = bits_fit ∙ h

-- what an operation gives fits its format, whatever the terms
pub operation-fits : (minus : Bool) (x y : Float) → T (fits binary32 ((operation_of minus).of_floats x y))
operation-fits true x y = sub-fits binary32 x y
operation-fits false x y = add-fits binary32 x y

-- what was given, by what its number or its refusal tells
pub given_some : (g : Option ℕ) (e : Refusal) {x : ℕ} (t : Term) → Ok x ≡ ok_or g e → Gives g t → (term_of x ≡ t) × (term_fits t ≡ true)
given_some (Some y) e {x} t p d = let h : y ≡ x = cc in subst (λ (n : ℕ). Gives (Some n) t) h d
given_some None e t p d = clash cc

pub given_none : (g : Option ℕ) {e d : Refusal} (t : Term) → Err d ≡ ok_or g e → Gives g t → (d ≡ e) × (term_fits t ≡ false)
given_none (Some y) t p d = clash cc
given_none None t p d = (cc, d)

pub packed-as : {y : ℕ} {t u : Term} → t ≡ u → Packs y (term t) → Packs y (term u)
packed-as {y} e p = subst (λ (t : Term). Packs y (term t)) e p
