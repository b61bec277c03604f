-- The processes on data terms come in families, a block of paper/specs/Process each; an argument of the code says which is meant.
use Rattle.std.specs.Prelude.{ℕ, ◌*◌, ◌^◌, Bool, true, false, ◌≡◌, ℤ, Option, Some, None}
use Rattle.std.proofs.Math.IntN.{sub_ℕ}
use Rattle.paper.specs.Term.{Term, Pair, integers, floats, term_fits, is_integer, negated, plus_one}
use Rattle.paper.specs.Process.{either}
use Rattle.cells.specs.Layout.{value_of, term_of}
use Rattle.numbers.specs.declared.Change.{Change}
use Rattle.numbers.specs.declared.Change.TheVariants.{Negate, AddOne}
use Rattle.numbers.specs.declared.Pair.{Pair as CodePair}
use Rattle.numbers.specs.declared.Pair.TheVariants.{Integers, Floats}

-- J123, J125: what it takes, and what it makes of it
abbrev pub takes_of : Change → Term → Bool
takes_of Negate = either
takes_of AddOne = is_integer

abbrev pub change_of : Change → Term → Term
change_of Negate = negated
change_of AddOne = plus_one

-- the pair of a pair of the code
abbrev pub pair_in : CodePair → Pair
pair_in (Integers a b) = integers (value_of a) (value_of b)
pair_in (Floats a b) = floats a b

-- what an operation on two integers gives may not fit 32 bits: it stands as its value + 3 * 2 ^ 31, which is never below 0
abbrev pub wide_of : ℕ → ℤ
wide_of x = sub_ℕ x (3 * 2 ^ 31)

-- what the code gives for the term t: its number where it fits
abbrev pub Gives : Option ℕ → Term → Type 0
Gives (Some x) t = (term_of x ≡ t) × (term_fits t ≡ true)
Gives None t = term_fits t ≡ false
