use Rattle.paper.proofs.Kit.{◌≤◌, ◌+◌, ◌*◌, ◌≡◌}
use Rattle.paper.specs.Region.{regions_sound}
use Rattle.regions.specs.Table.{regions_of}
use Rattle.regions.proofs.RegionLaws.{rest}
use Rattle.regions.proofs.Regions.regions_sound.Given as goal

-- Invariant: the regions left are sound from where the loop stands just if all are from 221; no sum wraps.
abbrev pub invariant-loop-i : goal.invariant-loop-i
invariant-loop-i l = (l.at ≤ 221 + 65535 * l.i) × (regions_sound l.n l.at (rest l.self l.i) ≡ regions_sound l.n 221 (regions_of l.self))
