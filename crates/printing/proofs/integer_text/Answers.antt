use Rattle.paper.proofs.Kit.{◌-◌, ◌^◌, arith}
use Rattle.paper.specs.Limits.{most_digits}
use Rattle.paper.proofs.LineLaws.{digits-length}
use Rattle.printing.proofs.TextLaws.{text-of, text-after, integer-low, integer-high}
use Rattle.printing.proofs.integer_text.Goals as goal

pub returns-then-v-lt-ZERO : goal.returns-then-v-lt-ZERO
returns-then-v-lt-ZERO c =
    let w = c.digits.ensures in
    text-after _ (integer-low _ c.if-v-lt-ZERO.true) (omega (arith, w.end, digits-length most_digits (2 ^ 31 - c.args.v))) (omega arith) w

pub returns : goal.returns
returns c =
    let w = c.digits-2.ensures in
    text-of (integer-high _ c.if-v-lt-ZERO.false) (omega (arith, w.end, digits-length most_digits (c.args.v - 2 ^ 31))) w
