use Rattle.paper.proofs.Kit.{◌≤◌, ◌+◌, ◌≡◌, drop, length}
use Rattle.paper.specs.Sound.{free_count}
use Rattle.cells.specs.Bridge.{unpacked}
use Rattle.sound.proofs.StoreLaws.{passes}
use Rattle.sound.proofs.cells_sound.Given as goal

-- Invariant: the cells from c on pass just if all do, and with those counted so far give the number of free cells.
abbrev pub invariant-loop-c : goal.invariant-loop-c
invariant-loop-c l = (l.free ≤ l.c)
    × (passes (length l.cells) l.end l.c (drop l.c l.cells) ≡ passes (length l.cells) l.end 0 l.cells)
    × (l.free + free_count (unpacked (drop l.c l.cells)) ≡ free_count (unpacked l.cells))
