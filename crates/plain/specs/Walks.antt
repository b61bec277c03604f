-- The walk of a structure on the lent numbers and a table: as `walk_call` of paper/specs/Plain has it. Numbers or a table out of form are 20 too.
use Rattle.std.specs.Prelude.{ℕ, ◌-◌, List, [], ◌++◌, length, replicate}
use Rattle.std.proofs.Math.Option.{none, some}
use Rattle.paper.specs.Limits.{largest_n}
use Rattle.paper.specs.Plain.{Walked, walked, walk_call}
use Rattle.regions.specs.declared.Regions.{Regions}
use Rattle.sound.specs.Store.{state_with}
use Rattle.sound.specs.Asked.{unfit}
use Rattle.plain.specs.declared.Met.{Met}

-- cells, and zeros up to the largest N
abbrev pub padded : List ℕ → List ℕ
padded cs = cs ++ replicate (largest_n - length cs) 0

-- the outcome of a walk: its answer, how many cells, and the cells
abbrev pub met_of : Walked → Met
met_of w = record { answer = w.answer; n = length w.met; cells = padded w.met }

-- in an unfit store no cell is met; else as `walk_call`
unfoldable pub walk_on : ℕ → Regions → List ℕ → Met
walk_on c r s = met_of (elim (unfit r s) [ some a ↦ walked a [] | none ↦ walk_call c (state_with r s [] 0) ])
