use Rattle.paper.proofs.Kit.{ap, sym, ◌∙◌}
use Rattle.paper.specs.Term.{integer_in}
use Rattle.cells.proofs.Laws.{integer-is, floating-is}
use Rattle.cells.proofs.integer_in.Goals as goal

pub returns-then-is_integer : goal.returns-then-is_integer
returns-then-is_integer c = ap integer_in (integer-is c.args.x (sym c.is_integer.ensures ∙ c.if-is_integer.true))

pub returns : goal.returns
returns c = ap integer_in (floating-is c.args.x (sym c.is_integer.ensures ∙ c.if-is_integer.false))
