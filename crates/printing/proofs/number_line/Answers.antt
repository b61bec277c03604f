use Rattle.paper.proofs.Kit.{arith}
use Rattle.paper.specs.Limits.{most_digits}
use Rattle.paper.proofs.LineLaws.{digits-length}
use Rattle.printing.proofs.TextLaws.{puts-line}
use Rattle.printing.proofs.number_line.Goals as goal

pub end_line-len-requires : goal.end_line-len-requires
end_line-len-requires c =
    let w = c.digits-end.ensures in
    omega (arith, w.end, digits-length most_digits c.args.n)

pub returns : goal.returns
returns c =
    let w = c.write_line.ensures in
    puts-line _ _ c.digits-end.ensures c.end_line-len.ensures w.0 w.1
