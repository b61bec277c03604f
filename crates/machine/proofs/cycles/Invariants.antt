use Rattle.paper.proofs.Kit.{◌-◌, ◌≤◌, ◌≡◌, List, [], length, drop}
use Rattle.paper.specs.Cell.{Region}
use Rattle.paper.specs.Run.{run_from}
use Rattle.cells.specs.Pack.{AllFormed}
use Rattle.cells.specs.Bridge.{state_of}
use Rattle.regions.specs.Lent.{Tells}
use Rattle.cycle.specs.Turns.{state_at, Ready}
use Rattle.machine.proofs.cycles.Given as goal

abbrev pub invariant-loop-budget : goal.invariant-loop-budget
invariant-loop-budget l = Ready l.cells l.log × AllFormed l.cells × (l.done ≤ l.budget) × (l.at ≤ length l.out) × (length l.out ≡ length l.initial.out)
    × (length l.cells ≡ length l.initial.cells) × (length l.log ≡ length l.initial.log) × (drop l.at l.out ≡ drop l.at l.initial.out)
    × ((rs : List Region) → Tells l.table rs → run_from l.budget 0 (state_of (record { regions = rs; lines = []; room = length l.initial.out }) l.initial.cells)
    ≡ run_from (l.budget - l.done) l.done (state_at rs l.cells l.out l.at))

abbrev pub decreases-loop-budget : goal.decreases-loop-budget
decreases-loop-budget l = l.budget - l.done
