use Rattle.cells.proofs.Laws.{by_kind, cond_same}
use Rattle.paper.specs.Cell.{free_link}
use Rattle.paper.proofs.Kit.{lt-ltb, le-ltb}
use Rattle.cells.proofs.free_link.Goals as goal

pub returns-then-x-lt-FREE : goal.returns-then-x-lt-FREE
returns-then-x-lt-FREE c = simp (by_kind free_link c.args.x, lt-ltb _ _ c.if-x-lt-FREE.true)

pub returns-then-x-lt-TERM : goal.returns-then-x-lt-TERM
returns-then-x-lt-TERM c =
    simp
    (by_kind free_link c.args.x, le-ltb _ _ c.if-x-lt-FREE.false, lt-ltb _ _ c.if-x-lt-TERM.true)

pub returns : goal.returns
returns c =
    simp
    (by_kind free_link c.args.x, le-ltb _ _ c.if-x-lt-FREE.false, le-ltb _ _ c.if-x-lt-TERM.false, cond_same)
