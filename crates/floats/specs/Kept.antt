-- What an operation on floating terms leaves, and which operation or relation an argument of the code means.
use Rattle.std.specs.Prelude.{ℕ, Bool, true, false, Float, Option, Some, None}
use Rattle.std.specs.Float.Ieee.Scale.{finite}
use Rattle.std.specs.declared.cmp.Ordering.{Ordering}
use Rattle.std.specs.declared.cmp.Ordering.TheVariants.{Less, Equal, Greater}
use Rattle.paper.specs.Term.{bits_of, Operation, plus, minus, Relation, is_equal, is_above, is_below}

-- the bits of a finite number; "a result that is not finite is 29"
abbrev pub kept_if : Bool → Float → Option ℕ
kept_if true x = Some (bits_of x)
kept_if false x = None

abbrev pub kept_of : Float → Option ℕ
kept_of x = kept_if (finite x) x

-- J111 for true, J110 for false
abbrev pub operation_of : Bool → Operation
operation_of true = minus
operation_of false = plus

-- J114, J115, J116; against zero, J117, J118, J119
abbrev pub relation_of : Ordering → Relation
relation_of Equal = is_equal
relation_of Greater = is_above
relation_of Less = is_below
