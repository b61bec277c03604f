-- Cycles one after another: the turn of a run alone, with no budget, no answer and no count; and what H3 counts.
use Rattle.std.specs.Prelude.{ℕ, zero, suc, ◌<◌, ◌≡◌, true, false, List, ℤ}
use Rattle.std.proofs.Math.Option.{Option, none, some}
use Rattle.paper.specs.declared.RunAnswer.{RunAnswer}
use Rattle.paper.specs.declared.RunAnswer.TheVariants.{Finished, BadSize, BudgetSpent, NotSound, Refused}
use Rattle.paper.specs.Cell.{State, tally_in}
use Rattle.cells.specs.Bridge.{unpacked}
use Rattle.paper.specs.Act.{refused}
use Rattle.paper.specs.Cycle.{cycle}
use Rattle.paper.specs.Run.{is_finished, alone, turn, on_turn}

-- the state after k cycles from s, if a run goes on so long: it neither finishes before nor is refused
unfoldable pub after_cycles : ℕ → State → Option State
after_cycles zero s = some s
after_cycles (suc k) s = on_turn (turn s) none (λ _. none) (λ t. after_cycles k t)

-- what the numbers s count in H3
abbrev pub tally_of : List ℕ → ℤ
tally_of s = tally_in (unpacked s)

-- why a run ends in the state t with so many cycles done: "the run is finished"; "budget spent"; the next cycle is refused. 1 and 20 end none
abbrev pub EndsAs : (budget cycles : ℕ) → State → RunAnswer → Type 0
EndsAs budget cycles t Finished = is_finished t ≡ true
EndsAs budget cycles t BudgetSpent = (is_finished t ≡ false) × (cycles ≡ budget)
EndsAs budget cycles t (Refused e) = (is_finished t ≡ false) × (cycles < budget) × (cycle (alone t) ≡ refused e)
EndsAs budget cycles t BadSize = ⊥
EndsAs budget cycles t NotSound = ⊥
