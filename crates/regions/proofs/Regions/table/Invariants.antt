use Rattle.paper.proofs.Kit.{◌≤◌, ◌+◌, ◌*◌, ◌≡◌}
use Rattle.paper.specs.Region.{end_of_regions}
use Rattle.regions.specs.Table.{regions_of}
use Rattle.regions.proofs.RegionLaws.{rest}
use Rattle.regions.proofs.LentLaws.{Rows}
use Rattle.regions.proofs.Regions.table.Given as goal

-- Invariant: the first i rows are those of the regions, the others 0; what is left of the regions ends where they all end; no sum wraps.
abbrev pub invariant-loop-i : goal.invariant-loop-i
invariant-loop-i l = (l.at ≤ 221 + 65535 * l.i) × (end_of_regions (rest l.self l.i) l.at ≡ end_of_regions (regions_of l.self) 221) × Rows l.self l.i l.t
