use Rattle.paper.proofs.Kit.{◌≤◌, ◌+◌, ◌≡◌}
use Rattle.paper.specs.Limits.{first_deck}
use Rattle.paper.specs.Region.{letters_from}
use Rattle.regions.specs.Lent.{rows_of}
use Rattle.regions.proofs.LentLaws.{rows_left}
use Rattle.regions.proofs.in_rows.Given as goal

-- Invariant: the name of the cell among the rows left, laid out from where the loop stands, is its name among them all.
abbrev pub invariant-loop-x : goal.invariant-loop-x
invariant-loop-x l = (l.at ≤ l.c) × (letters_from (rows_left l.table (l.x-index + 1)) l.at l.c ≡ letters_from (rows_of l.table) first_deck l.c)
