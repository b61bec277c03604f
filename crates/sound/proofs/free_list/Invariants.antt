use Rattle.paper.proofs.Kit.{◌≡◌, ◌-◌}
use Rattle.paper.specs.Sound.{free_list}
use Rattle.cells.specs.Bridge.{unpacked}
use Rattle.sound.proofs.free_list.Given as goal

-- Invariant: the list from where the loop stands, with the cells still to be met, is right just if the whole is.
abbrev pub invariant-loop : goal.invariant-loop
invariant-loop l = free_list (l.k - l.counter) (unpacked l.cells) l.c ≡ free_list l.k (unpacked l.cells) l.start
