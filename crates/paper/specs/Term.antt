-- Data terms. Document 01: "integer (signed 32 bits)"; CR 9: "Add a floating term of 32 bits". Here is what a sort can do, as values that
-- the processes are given; a process itself is one block for both (Process; readings 9.1 to 9.8).
use Rattle.std.specs.Prelude.{Bool, true, false, ◌&&◌, not, ℕ, ◌+◌, ltb, ℤ, pos, neg_ℤ, ◌+ℤ◌, ◌-ℤ◌, Float}
use Rattle.std.specs.Int.Signed.{mag, lt_z}
use Rattle.std.specs.Float.{binary32}
use Rattle.std.specs.Float.Ieee.{of_bits, to_bits, add, sub, neg, eq, lt}
use Rattle.std.specs.Float.Ieee.Scale.{finite}
use Rattle.paper.specs.Limits.{half_range}

-- an integer, or the bits of a floating term
pub data Term : Type 0 where
  integer : ℤ → Term
  floating : ℕ → Term

-- the number that bits stand for, and the bits of a number: the logic's own account of IEEE 754 (`lib.Ieee`), which computes
abbrev pub float_of : ℕ → Float
float_of b = of_bits binary32 b

abbrev pub bits_of : Float → ℕ
bits_of x = to_bits binary32 x

-- not finite: the exponent's bits are all ones (reading 9.1)
abbrev pub is_finite : ℕ → Bool
is_finite b = finite (float_of b)

-- "signed 32 bits": `mag` is n both of n and of -(n + 1); "a floating term of 32 bits", "a sound store holds finite ones only"
abbrev pub term_fits : Term → Bool
term_fits (integer z) = ltb (mag z) half_range
term_fits (floating b) = ltb b (half_range + half_range) && is_finite b

abbrev pub is_integer : Term → Bool
is_integer (integer z) = true
is_integer (floating b) = false

-- the integer of a term; of a floating one, 0
abbrev pub integer_in : Term → ℤ
integer_in (integer z) = z
integer_in (floating b) = pos 0

-- "two floating terms or two integers": a pair has one sort
pub data Pair : Type 0 where
  integers : ℤ → ℤ → Pair
  floats : ℕ → ℕ → Pair

abbrev pub alike : Term → Term → Bool
alike (integer a) (integer b) = true
alike (integer a) (floating b) = false
alike (floating a) (integer b) = false
alike (floating a) (floating b) = true

-- the pair of two terms; of a mixed one, which is refused, two zeros
abbrev pub pair_of : Term → Term → Pair
pair_of (integer a) (integer b) = integers a b
pair_of (integer a) (floating b) = integers (pos 0) (pos 0)
pair_of (floating a) (integer b) = integers (pos 0) (pos 0)
pair_of (floating a) (floating b) = floats a b

-- a term and the zero of its sort
abbrev pub with_zero : Term → Pair
with_zero (integer a) = integers a (pos 0)
with_zero (floating a) = floats a 0

-- an operation, and a relation, of either sort
pub record Operation : Type 0 where
  pub of_integers : ℤ → ℤ → ℤ
  pub of_floats : Float → Float → Float

pub record Relation : Type 0 where
  pub of_integers : ℤ → ℤ → Bool
  pub of_floats : Float → Float → Bool

-- J110 and J111. "A sum is rounded once, as one operation of the format"
abbrev pub plus : Operation
plus = record { of_integers = ◌+ℤ◌; of_floats = add binary32 }

abbrev pub minus : Operation
minus = record { of_integers = ◌-ℤ◌; of_floats = sub binary32 }

-- J114 to J119: "equal, above, below"; "-0 equals 0 in tests"
abbrev pub is_equal : Relation
is_equal = record { of_integers = λ a b. not (lt_z a b) && not (lt_z b a); of_floats = eq }

abbrev pub is_above : Relation
is_above = record { of_integers = λ a b. lt_z b a; of_floats = λ x y. lt y x }

abbrev pub is_below : Relation
is_below = record { of_integers = lt_z; of_floats = lt }

-- what an operation gives: a term of the pair's sort
abbrev pub combined : Operation → Pair → Term
combined f (integers a b) = integer (f.of_integers a b)
combined f (floats a b) = floating (bits_of (f.of_floats (float_of a) (float_of b)))

abbrev pub holds : Relation → Pair → Bool
holds r (integers a b) = r.of_integers a b
holds r (floats a b) = r.of_floats (float_of a) (float_of b)

-- J123: "of a floating term the sign bit is turned", so that of 0 it is -0 (reading 9.4)
abbrev pub negated : Term → Term
negated (integer z) = integer (neg_ℤ z)
negated (floating b) = floating (bits_of (neg (float_of b)))

-- J125, which "stays with integers"
abbrev pub plus_one : Term → Term
plus_one t = integer (integer_in t +ℤ pos 1)

unfoldable pub term_open : Unit {0}
unfolding of_bits to_bits add sub neg eq lt
term_open = tt
