use Rattle.structures.proofs.Loops.{Frees}
use Rattle.structures.proofs.frees.none_reserved.Given as goal

abbrev pub invariant-loop-c : goal.invariant-loop-c
invariant-loop-c l = Frees l.top l.met l.c-index
