use Rattle.paper.proofs.Kit.{sym, not, subst}
use lib.Dec.{T}
use lib.Ieee.{Float, is_nan}
use Rattle.paper.specs.Term.{float_of}
use Rattle.floats.specs.Kept.{operation_of}
use Rattle.floats.proofs.Laws.{answered, finite-pattern, gives-number, operates, refuses}
use Rattle.floats.proofs.combined.Goals.{then-not-is_finite-via-then-not-is_finite, then-not-is_finite-via-else-not-is_finite+then-not-is_finite-2}
use Rattle.floats.proofs.combined.Goals as goal

-- Where both terms are finite the operation gives no NaN, so its bits may be asked for; where one is not, neither is what it gives.
pub float_from_bits-a : goal.float_from_bits-a
float_from_bits-a c = finite-pattern c.args.a (answered c.is_finite.ensures c.if-not-is_finite.false)

pub float_from_bits-b : goal.float_from_bits-b
float_from_bits-b c =
    finite-pattern c.args.b (answered c.is_finite-else-not-is_finite.ensures c.if-not-is_finite-2.false)

pub keep-requires : goal.keep-requires
keep-requires c =
    let x = c.args in
    subst (λ (z : Float). T (not (is_nan z))) (sym c.operated.ensures)
    (gives-number x.minus x.a x.b (answered c.is_finite.ensures c.if-not-is_finite.false)
    (answered c.is_finite-else-not-is_finite.ensures c.if-not-is_finite-2.false))

pub returns-then-not-is_finite : goal.returns-then-not-is_finite
returns-then-not-is_finite c =
    let x = c.args in
    let a = float_of x.a in
    let b = float_of x.b in
    let left = (operates x.minus).left a b in
    let right = (operates x.minus).right a b in
    refuses ((operation_of x.minus).of_floats a b)
    (elim c.then-not-is_finite.branch [
      | then-not-is_finite-via-then-not-is_finite w ↦ left (answered c.is_finite.ensures w.if-not-is_finite.true)
      | then-not-is_finite-via-else-not-is_finite+then-not-is_finite-2 w ↦
          right (answered w.is_finite-else-not-is_finite.ensures w.if-not-is_finite-2.true)
    ])
