use Rattle.paper.proofs.Kit.{◌≡◌, length}
use Rattle.std.specs.Prelude.{Ok}
use Rattle.paper.specs.Act.{pops}
use Rattle.steps.specs.Follows.{Follows}
use Rattle.undo.specs.Did.{Top, lent}
use Rattle.acts.proofs.pops.Given as goal

abbrev pub invariant-loop : goal.invariant-loop
invariant-loop g l =
    (length l.log ≡ length l.initial.log)
    × Follows lent (Top l.top) l.counter (pops l.counter) (l.initial.cells, l.initial.log) (l.cells, l.log) (Ok (tt {0}))
