use Rattle.paper.proofs.Kit.{◌≡◌, length}
use Rattle.undo.specs.Log.{rewind_from}
use Rattle.undo.proofs.rewind.Given as goal

abbrev pub invariant-loop-i : goal.invariant-loop-i
invariant-loop-i l = (length l.cells ≡ length l.initial.cells) × (rewind_from l.log l.i l.cells ≡ rewind_from l.log l.n l.initial.cells)
