use Rattle.cells.proofs.Laws.{alike-sorts}
use Rattle.cells.proofs.alike.Goals as goal

pub returns : goal.returns
returns c = alike-sorts c.args.x c.args.y
