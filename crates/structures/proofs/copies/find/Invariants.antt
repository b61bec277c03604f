use Rattle.paper.proofs.Kit.{◌%◌, take}
use Rattle.cells.specs.Bridge.{unpacked}
use Rattle.structures.specs.Marks.{Only}
use Rattle.structures.specs.Copies.{news_of, Run}
use Rattle.structures.proofs.copies.find.Given as goal

-- The free list goes over the cells that are noted so far, and on from `next`.
abbrev pub invariant-loop-i : goal.invariant-loop-i
invariant-loop-i l = Only l.marks (take l.i l.met) × Run (unpacked l.cells) (l.h % 65536) (news_of l.marks (take l.i l.met)) l.next
