use Rattle.cells.proofs.Laws.{by_kind, cond_same, cond-test}
use Rattle.paper.specs.Cell.{is_word}
use Rattle.cells.proofs.is_word.Goals as goal

pub returns : goal.returns
returns c = simp (by_kind is_word c.args.x, cond_same, cond-test)
