-- What a part of a cycle has done: as `Printing` of crate printing, in at most k writes that are logged. A part sees only its own line.
use Rattle.std.specs.Prelude.{ℕ, ◌≤◌, List, length, Result}
use Rattle.paper.specs.declared.Refusal.{Refusal}
use Rattle.paper.specs.Act.{Act}
use Rattle.paper.specs.Cycle.{Control}
use Rattle.steps.specs.Follows.{seen_as}
use Rattle.regions.specs.Lent.{Told}
use Rattle.undo.specs.Log.{Room}
use Rattle.undo.specs.Did.{Lent, Shown}
use Rattle.structures.specs.Walks.{InRange}
use Rattle.printing.specs.Telling.{Printing}
use Rattle.cycle.specs.Moves.{control_of}
use Rattle.cycle.specs.declared.control.Operated.{Operated}

-- the contract: over the lent cells, log, table and output; e says where the lines end, and r what the block comes to
abbrev pub Steps : {A : Type 0} → ℕ → Act A → Lent → Lent → Shown → Lent → ℕ → Result ℕ Refusal → Result A Refusal → Type 0
Steps k M cells log table out at e r =
    Printing table.entry.now k M (cells.entry.now, log.entry.now) out.entry.now at (cells.exit.now, log.exit.now) out.exit.now e r

-- of what an operation came to: where the lines end, and where control is
abbrev pub end_in : Result Operated Refusal → Result ℕ Refusal
end_in r = seen_as (λ o. o.end) r

abbrev pub control_in : Result Operated Refusal → Result Control Refusal
control_in r = seen_as (λ o. control_of o.away) r

-- what a part is lent: cells in range, room for k writes, lines within the lent bytes, and a table
pub record Lends (k : ℕ) (s l table out : List ℕ) (at : ℕ) : Type 0 where
  pub range : InRange s
  pub room : Room l k
  pub within : at ≤ length out
  pub names : Told table
