use Rattle.cells.proofs.Laws.{by_kind, cond_same, cond-test}
use Rattle.paper.specs.Cell.{is_free}
use Rattle.paper.proofs.Kit.{lt-ltb, le-ltb, lt-leb}
use Rattle.cells.proofs.is_free.Goals as goal

pub returns-then-x-ge-FREE : goal.returns-then-x-ge-FREE
returns-then-x-ge-FREE c = simp (by_kind is_free c.args.x, le-ltb _ _ c.if-x-ge-FREE.true, cond_same, cond-test)

pub returns-else-x-ge-FREE : goal.returns-else-x-ge-FREE
returns-else-x-ge-FREE c = simp (by_kind is_free c.args.x, lt-leb _ _ c.if-x-ge-FREE.false, lt-ltb _ _ c.if-x-ge-FREE.false)
