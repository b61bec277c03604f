-- A run on the lent numbers, a table and the lent bytes: as `run` of paper/specs/Run has it. Numbers or a table out of form are 20 too.
use Rattle.std.specs.Prelude.{ℕ, Bool, List, [], ◌++◌, length, drop}
use Rattle.std.proofs.Math.Option.{none, some}
use Rattle.paper.specs.declared.RunAnswer.{RunAnswer}
use Rattle.paper.specs.Cell.{Region}
use Rattle.paper.specs.Run.{Outcome, is_finished, run_from, run}
use Rattle.cells.specs.Pack.{packed}
use Rattle.cells.specs.Bridge.{state_of}
use Rattle.regions.specs.declared.Regions.{Regions}
use Rattle.sound.specs.Store.{state_with}
use Rattle.sound.specs.Asked.{unfit}
use Rattle.machine.specs.declared.Ran.{Ran}

-- the answer with its cycles and how many bytes of lines, the numbers and the bytes afterwards
pub record Numbers : Type 0 where
  pub answer : RunAnswer
  pub cycles : ℕ
  pub len : ℕ
  pub cells : List ℕ
  pub out : List ℕ

abbrev pub numbers : Ran → List ℕ → List ℕ → Numbers
numbers r s out = record { answer = r.answer; cycles = r.cycles; len = r.len; cells = s; out = out }

-- nothing was done
abbrev pub untouched : RunAnswer → List ℕ → List ℕ → Numbers
untouched a s out = record { answer = a; cycles = 0; len = 0; cells = s; out = out }

-- the lines stand first in the lent bytes; "output bytes past the lines keep what they held"
abbrev pub in_numbers : List ℕ → Outcome → Numbers
in_numbers out o =
    let t = o.state.lines in
    record { answer = o.answer; cycles = o.cycles; len = length t; cells = packed o.state.cells; out = t ++ drop (length t) out }

-- 1 and 20 are asked first; "store not sound, or budget over 1,000,000" is 20 either way; else as `run`
unfoldable pub run_on : Regions → ℕ → List ℕ → List ℕ → Numbers
run_on r budget s out = elim (unfit r s) [ some a ↦ untouched a s out | none ↦ in_numbers out (run budget (state_with r s [] (length out))) ]

-- the cycles of a run, on numbers that are in form
abbrev pub cycles_on : List Region → ℕ → List ℕ → List ℕ → Numbers
cycles_on rs budget s out = in_numbers out (run_from budget 0 (state_of (record { regions = rs; lines = []; room = length out }) s))

abbrev pub is_finished_in : List ℕ → Bool
is_finished_in s = is_finished (state_of (record { regions = []; lines = []; room = 0 }) s)
