use Rattle.paper.proofs.Kit.{take}
use Rattle.structures.specs.Marks.{Only}
use Rattle.structures.specs.Copies.{news_of}
use Rattle.structures.proofs.Loops.{Takes}
use Rattle.structures.proofs.copies.take_all.Given as goal

abbrev pub invariant-loop-i : goal.invariant-loop-i
invariant-loop-i l = Only l.marks (take l.i l.met) × Takes l.met l.i (l.initial.cells, l.initial.log) (news_of l.marks (take l.i l.met)) (l.cells, l.log)
