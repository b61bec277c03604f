use Rattle.cycle.proofs.CycleLaws.{ascends, goes}
use Rattle.cycle.proofs.TurnLaws.{came, stays-formed}
use Rattle.structures.proofs.Whole.{range-as}
use Rattle.paper.proofs.Kit.{◌∙◌, arith}
use Rattle.cycle.proofs.cycle.Goals as goal

pub returns-then-c-eq0 : goal.returns-then-c-eq0
returns-then-c-eq0 c =
    λ rs w.
    let p = ascends _ c.own-h.ensures _ _ c.requires.1 _ c.and-outcome.ensures c.top_of.ensures.0 c.if-c-eq0.true c.ascend.ensures in
    record {
      came = came rs w _ _ _ c.begin.ensures _ _ p _ c.settle.ensures;
      ready = record {
        room = omega (
          arith,
          c.requires.0.room,
          c.begin.auto,
          c.ascend.auto.cells,
          c.ascend.auto.log,
          c.settle.auto.cells,
        );
        range = range-as (c.settle.auto.cells ∙ c.ascend.auto.cells) c.requires.0.range;
      };
      formed = stays-formed rs w _ _ _ c.begin.ensures _ _ p c.settle.ensures;
    }

pub interpret-outcome-requires : goal.interpret-outcome-requires
interpret-outcome-requires c =
    record {
      range = c.requires.0.range;
      room = record { fits = omega (arith, c.requires.0.room, c.begin.ensures.count, c.begin.auto) };
      within = c.requires.1;
      names = c.requires.2;
    }

pub settle-requires-2 : goal.settle-requires-2
settle-requires-2 c = (
  record {
    fits = omega (
      arith,
      c.requires.0.room,
      c.begin.ensures.count,
      c.begin.auto,
      c.interpret-outcome.auto.cells,
      c.interpret-outcome.auto.log,
      (c.interpret-outcome.ensures.follows _ (c.requires.2.tells)).kept.count,
    );
  },
  omega (arith, c.requires.0.range.large, c.interpret-outcome.auto.cells),
)

pub returns : goal.returns
returns c =
    λ rs w.
    let p = goes _ c.own-h.ensures c.if-c-eq0.false c.interpret-outcome.ensures in
    record {
      came = came rs w _ _ _ c.begin.ensures _ _ p _ c.settle-2.ensures;
      ready = record {
        room = omega (
          arith,
          c.requires.0.room,
          c.begin.auto,
          c.interpret-outcome.auto.cells,
          c.interpret-outcome.auto.log,
          c.settle-2.auto.cells,
        );
        range = range-as (c.settle-2.auto.cells ∙ c.interpret-outcome.auto.cells) c.requires.0.range;
      };
      formed = stays-formed rs w _ _ _ c.begin.ensures _ _ p c.settle-2.ensures;
    }
