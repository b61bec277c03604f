use Rattle.structures.specs.Copies.{new_of}
use Rattle.structures.proofs.Loops.{Copies}
use Rattle.structures.proofs.copies.copy_all.Given as goal

abbrev pub invariant-loop-o : goal.invariant-loop-o
invariant-loop-o l = Copies (new_of l.marks) l.met l.o-index (l.initial.cells, l.initial.log) (l.cells, l.log)
