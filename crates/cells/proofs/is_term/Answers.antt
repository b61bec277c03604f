use Rattle.paper.proofs.Kit.{◌^◌, arith, lt-ltb, le-ltb, lt-leb}
use Rattle.cells.proofs.Laws.{by_kind, cond_same, cond-test}
use Rattle.paper.specs.Cell.{is_term}
use Rattle.cells.proofs.is_term.Goals as goal

pub returns-then-x-ge-TERM : goal.returns-then-x-ge-TERM
returns-then-x-ge-TERM c =
    simp
    (by_kind is_term c.args.x, le-ltb c.args.x (2 ^ 48) (omega arith), le-ltb _ _ c.if-x-ge-TERM.true, cond_same, cond-test)

pub returns-else-x-ge-TERM : goal.returns-else-x-ge-TERM
returns-else-x-ge-TERM c = simp (by_kind is_term c.args.x, lt-leb _ _ c.if-x-ge-TERM.false, lt-ltb _ _ c.if-x-ge-TERM.false, cond_same)
