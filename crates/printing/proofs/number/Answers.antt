use Rattle.paper.proofs.Kit.{ap, ◌∙◌, arith}
use Rattle.paper.specs.Limits.{cell_digits}
use Rattle.paper.specs.Print.{digits}
use Rattle.paper.proofs.LineLaws.{digits-length, cell-digits}
use Rattle.printing.proofs.TextLaws.{writes_as}
use Rattle.printing.proofs.number.Goals as goal

pub returns : goal.returns
returns c =
    let w = c.digits.ensures in
    (writes_as (cell-digits _ (omega arith) ∙ ap digits c.from.ensures) w, omega (arith, w.end, digits-length cell_digits c.from.result))
