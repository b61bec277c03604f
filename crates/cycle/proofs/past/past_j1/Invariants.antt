use Rattle.paper.proofs.Kit.{◌-◌, ◌≡◌, length}
use Rattle.paper.specs.Cycle.{execute}
use Rattle.undo.specs.Did.{Top, lent}
use Rattle.cycle.specs.Reaches.{Reaches}
use Rattle.cycle.proofs.past.past_j1.Given as goal

-- Invariant: the execution that was begun is the one that is left, and each turn has popped once.
abbrev pub invariant-loop : goal.invariant-loop
invariant-loop l =
    (length l.cells ≡ length l.initial.cells) × (length l.log ≡ length l.initial.log)
    × Reaches lent (Top l.top) l.counter (execute l.turns l.initial.y) (execute (l.turns - l.counter) l.y) (l.initial.cells, l.initial.log) (l.cells, l.log)
