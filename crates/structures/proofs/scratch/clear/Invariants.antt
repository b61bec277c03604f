use Rattle.paper.proofs.Kit.{◌≡◌, drop, length}
use Rattle.structures.specs.Marks.{many_numbers, Only}
use Rattle.structures.proofs.scratch.clear.Given as goal

-- What is still marked is among those that are left.
abbrev pub invariant-loop-c : goal.invariant-loop-c
invariant-loop-c l = (length l.marks ≡ many_numbers) × Only l.marks (drop l.c-index l.met)
