use Rattle.deck.proofs.FreshLaws.{set_below, laid}
use Rattle.cells.specs.Pack.{Packs}
use Rattle.paper.specs.Deck.{fresh_cell}
use Rattle.paper.proofs.Kit.{length, arith, rules}
use Rattle.deck.proofs.fresh.lay.Goals as goal

pub loop-c-init : goal.loop-c-init
loop-c-init c = (search rules, λ j h. absurd (omega arith))

pub loop-c-preserved : goal.loop-c-preserved
loop-c-preserved c = (
  search rules,
  set_below (λ j x. Packs x (fresh_cell (length c.args.cells.now) c.args.end j)) c.loop-c.cells c.loop-c.c _ 0 (search rules)
      c.loop-c.invariant.1 c.fresh_cell.ensures,
)

pub returns : goal.returns
returns c =
    laid (fresh_cell (length c.args.cells.now) c.args.end) c.loop-c.cells _ c.loop-c.invariant.0
    (λ j h. c.loop-c.invariant.1 j (omega arith))
