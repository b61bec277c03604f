-- A plain action on the lent numbers and a table: as `plainly` of paper/specs/Plain has it. Numbers or a table out of form are 20 too.
use Rattle.std.specs.Prelude.{ℕ, List, [], Result, Ok, Err}
use Rattle.std.proofs.Math.Option.{none, some}
use Rattle.paper.specs.declared.Refusal.{Refusal}
use Rattle.paper.specs.declared.RunAnswer.{RunAnswer}
use Rattle.paper.specs.declared.RunAnswer.TheVariants.{Finished, Refused as Stopped}
use Rattle.paper.specs.Act.{Act}
use Rattle.paper.specs.Plain.{Acted as Plainly, plainly}
use Rattle.cells.specs.Pack.{packed}
use Rattle.undo.specs.Log.{rewind_of}
use Rattle.regions.specs.declared.Regions.{Regions}
use Rattle.sound.specs.Store.{state_with}
use Rattle.sound.specs.Asked.{unfit}

-- the answer, and the numbers afterwards
pub record Numbers : Type 0 where
  pub answer : RunAnswer
  pub cells : List ℕ

abbrev pub numbers : RunAnswer → List ℕ → Numbers
numbers a s = record { answer = a; cells = s }

abbrev pub in_numbers : Plainly → Numbers
in_numbers o = numbers o.answer (packed o.state.cells)

-- an unfit store is left as it is; else as `plainly`
unfoldable pub plain_on : Act (Unit {0}) → Regions → List ℕ → Numbers
plain_on m r s = elim (unfit r s) [ some a ↦ numbers a s | none ↦ in_numbers (plainly m (state_with r s [] 0)) ]

-- the end of an action: its writes stay, or are undone
abbrev pub settled_as : Result (Unit {0}) Refusal → List ℕ → List ℕ → Numbers
settled_as (Ok v) l s = numbers Finished s
settled_as (Err e) l s = numbers (Stopped e) (rewind_of l s)
