use Rattle.paper.proofs.Kit.{◌%◌}
use Rattle.structures.proofs.Loops.{Releases}
use Rattle.structures.proofs.frees.release_all.Given as goal

abbrev pub invariant-loop-i : goal.invariant-loop-i
invariant-loop-i l = Releases l.met l.i (l.h % 65536) (l.initial.cells, l.initial.log) l.l (l.cells, l.log)
