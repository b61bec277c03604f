use Rattle.paper.proofs.Kit.{◌≤◌, ◌+◌, ◌*◌, ◌≡◌}
use Rattle.paper.specs.Cell.{end_of_regions}
use Rattle.regions.specs.Table.{regions_of}
use Rattle.regions.proofs.RegionLaws.{rest}
use Rattle.regions.proofs.Regions.top.Given as goal

-- Invariant: what is left of the regions, laid out from where the loop stands, ends where they all end; no sum wraps.
abbrev pub invariant-loop-count : goal.invariant-loop-count
invariant-loop-count l = (l.at ≤ 221 + 65535 * l.count-index)
    × (end_of_regions (rest l.fn.self l.count-index) l.at ≡ end_of_regions (regions_of l.fn.self) 221)
