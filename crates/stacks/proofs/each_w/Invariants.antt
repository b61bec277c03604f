use Rattle.paper.proofs.Kit.{◌-◌, ◌*◌, ◌≤◌}
use Rattle.std.specs.Prelude.{Ok}
use Rattle.steps.specs.Follows.{Follows}
use Rattle.undo.specs.Did.{Top, lent}
use Rattle.stacks.proofs.Each.{first_w}
use Rattle.stacks.proofs.each_w.Given as goal

abbrev pub invariant-loop-i : goal.invariant-loop-i
invariant-loop-i g l =
    (l.i ≤ l.n) × Follows lent (Top l.top) (2 * l.i) (first_w l.i g.does) (l.initial.cells, l.initial.log) (l.cells, l.log) (Ok (tt {0}))

abbrev pub decreases-loop-i : goal.decreases-loop-i
decreases-loop-i g l = l.n - l.i
