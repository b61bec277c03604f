use Rattle.regions.proofs.RegionLaws.{rest}
use Rattle.regions.specs.Table.{regions_of}
use Rattle.paper.specs.Limits.{largest_n, first_deck}
use Rattle.paper.specs.Region.{end_of_regions, cell_from}
use Rattle.paper.proofs.Kit.{◌≡◌, ◌≤◌, length}
use Rattle.regions.proofs.Regions.in_deck.Given as goal

-- Invariant: the regions left, laid out from where the loop stands, end and have the cell where all of them do.
abbrev pub invariant-loop-letter : goal.invariant-loop-letter
invariant-loop-letter l = (l.from ≤ largest_n)
    × (end_of_regions (rest l.fn.self (length l.yielded)) l.from ≡ end_of_regions (regions_of l.fn.self) first_deck)
    × (cell_from (rest l.fn.self (length l.yielded)) l.from l.b l.n ≡ cell_from (regions_of l.fn.self) first_deck l.b l.n)
