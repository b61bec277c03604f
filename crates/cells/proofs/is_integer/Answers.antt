use Rattle.cells.proofs.Laws.{integer-sort}
use Rattle.cells.proofs.is_integer.Goals as goal

pub returns : goal.returns
returns c = integer-sort c.args.x
