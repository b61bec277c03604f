use Rattle.paper.proofs.Kit.{ℕ, ◌+◌, ◌*◌, ap, ◌∙◌, arith, length, length-replicate}
use Rattle.paper.specs.Limits.{largest_n}
use Rattle.sound.proofs.SoundLaws.{passed-formed, passed-end, size-range}
use Rattle.machine.specs.declared.Ran.{Ran}
use Rattle.machine.specs.Numbers.{numbers}
use Rattle.machine.proofs.RunLaws.{run-unfit, run-over, run-cycles}
use Rattle.machine.proofs.run.Goals as goal

pub returns-then-budget-gt-LARGEST_BUDGET : goal.returns-then-budget-gt-LARGEST_BUDGET
returns-then-budget-gt-LARGEST_BUDGET c =
    ap (λ (r : Ran). numbers r c.args.cells.now c.args.out.now) c.came_to-then-budget-gt-LARGEST_BUDGET.ensures
    ∙ run-over _ _ _ _ c.in-Ok.ensures.size c.if-budget-gt-LARGEST_BUDGET.true

pub cycles-requires : goal.cycles-requires
cycles-requires c =
    let d = c.in-Ok.ensures in
    let n = size-range (length c.args.cells.now) d.size in (
      record {
        room = omega (arith, n.1, length-replicate {A = ℕ} (2 * (2 * largest_n + 41) + 5) 1);
        range = record { large = n.0; small = n.1 };
      },
      passed-formed _ _ d.sound,
      record {
        low = omega (
          arith,
          n.0,
          n.1,
          c.table-table.ensures.top,
          passed-end c.args.regions c.args.cells.now (omega (arith, n.0))
              d.sound,
        );
        regions = _;
        tells = c.table-table.ensures;
      },
    )

pub returns-in-Err : goal.returns-in-Err
returns-in-Err c =
    ap (λ (r : Ran). numbers r c.args.cells.now c.args.out.now) c.came_to.ensures
    ∙ run-unfit _ _ _ _ _ c.in-Err.ensures

pub returns-else-budget-gt-LARGEST_BUDGET : goal.returns-else-budget-gt-LARGEST_BUDGET
returns-else-budget-gt-LARGEST_BUDGET c =
    let d = c.in-Ok.ensures in
    c.cycles.ensures _ c.table-table.ensures ∙ run-cycles _ _ _ _ d.size c.if-budget-gt-LARGEST_BUDGET.false d.sound
