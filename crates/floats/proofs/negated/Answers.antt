use Rattle.paper.proofs.Kit.{◌∙◌}
use lib.Ieee.{neg}
use Rattle.paper.specs.Term.{float_of}
use Rattle.paper.proofs.FloatLaws.{negated-finite}
use Rattle.floats.proofs.Laws.{answered, finite-pattern, negated-number, refuses}
use Rattle.floats.proofs.negated.Goals as goal

pub returns-then-not-is_finite : goal.returns-then-not-is_finite
returns-then-not-is_finite c =
    refuses (neg (float_of c.args.b)) (negated-finite (float_of c.args.b) ∙ answered c.is_finite.ensures c.if-not-is_finite.true)

pub float_from_bits-b : goal.float_from_bits-b
float_from_bits-b c = finite-pattern c.args.b (answered c.is_finite.ensures c.if-not-is_finite.false)

pub keep-requires : goal.keep-requires
keep-requires c = negated-number c.args.b (answered c.is_finite.ensures c.if-not-is_finite.false)
