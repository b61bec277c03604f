use Rattle.paper.proofs.Kit.{arith, ◌^◌, lt-ltb, le-ltb}
use Rattle.cells.proofs.Laws.{by_kind, cond_same}
use Rattle.paper.specs.Cell.{term_in}
use Rattle.cells.proofs.term_in.Goals as goal

pub returns-then-x-lt-TERM : goal.returns-then-x-lt-TERM
returns-then-x-lt-TERM c = simp (by_kind term_in c.args.x, lt-ltb _ _ c.if-x-lt-TERM.true, cond_same)

pub returns-then-x-lt-PROCESS : goal.returns-then-x-lt-PROCESS
returns-then-x-lt-PROCESS c =
    simp (
      by_kind term_in c.args.x,
      le-ltb c.args.x (2 ^ 48) (omega arith),
      le-ltb _ _ c.if-x-lt-TERM.false,
      lt-ltb _ _
          c.if-x-lt-PROCESS.true,
    )

pub returns : goal.returns
returns c =
    simp
    (by_kind term_in c.args.x, le-ltb _ _ c.if-x-lt-TERM.false, le-ltb _ _ c.if-x-lt-PROCESS.false, cond_same)
