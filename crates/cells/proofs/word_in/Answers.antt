use Rattle.cells.proofs.Laws.{by_kind, cond_same}
use Rattle.paper.specs.Cell.{word_in}
use Rattle.paper.proofs.Kit.{lt-ltb, le-ltb}
use Rattle.cells.proofs.word_in.Goals as goal

pub returns-then-x-lt-FREE : goal.returns-then-x-lt-FREE
returns-then-x-lt-FREE c = simp (by_kind word_in c.args.x, lt-ltb _ _ c.if-x-lt-FREE.true)

pub returns : goal.returns
returns c = simp (by_kind word_in c.args.x, le-ltb _ _ c.if-x-lt-FREE.false, cond_same)
