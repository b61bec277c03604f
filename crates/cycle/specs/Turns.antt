-- A cycle as a whole: the lines so far are the first bytes of the room that was lent, and a refusal leaves all as it was.
use Rattle.std.specs.Prelude.{ℕ, ◌+◌, ◌-◌, ◌*◌, ◌<◌, ◌≤◌, ◌≡◌, List, length, take, drop, Result, Ok, Err}
use Rattle.paper.specs.declared.Refusal.{Refusal}
use Rattle.paper.specs.Cell.{Region, State}
use Rattle.paper.specs.Act.{done}
use Rattle.paper.specs.Cycle.{count, cycle}
use Rattle.paper.specs.Run.{Turn, stops, continues, alone, after_cycle}
use Rattle.cells.specs.Pack.{AllFormed}
use Rattle.cells.specs.Bridge.{Rest, state_of}
use Rattle.undo.specs.Log.{rewind_of}
use Rattle.structures.specs.Walks.{InRange}

-- the state whose lines are the first `at` bytes, and whose room is what is left
abbrev pub state_at : List Region → List ℕ → List ℕ → ℕ → State
state_at rs s out at = state_of (record { regions = rs; lines = take at out; room = length out - at }) s

-- a run may go on: room in the log for every write of a cycle, and N in range
pub record Ready (s log : List ℕ) : Type 0 where
  pub room : 2 * (2 * length s + 41) + 4 < length log
  pub range : InRange s

-- the cycle of a run from the state t: it sees only its own line
abbrev pub cycled : State → Turn
cycled t = after_cycle t (cycle (alone t))

-- accepted: the definition's state, and the bytes past the lines as they were; refused: cells and bytes as they were
unfoldable pub Came : List Region → List ℕ → List ℕ → ℕ → List ℕ → List ℕ → Result ℕ Refusal → Type 0
Came rs s out at s' out' (Ok n) =
    (cycled (state_at rs s out at) ≡ continues (state_at rs s' out' n)) × (at ≤ n) × (n ≤ length out) × (drop n out' ≡ drop n out)
Came rs s out at s' out' (Err e) = (cycled (state_at rs s out at) ≡ stops e) × (s' ≡ s) × (out' ≡ out)

pub record Turns (rs : List Region) (s out : List ℕ) (at : ℕ) (s' out' log : List ℕ) (r : Result ℕ Refusal) : Type 0 where
  pub came : Came rs s out at s' out' r
  pub ready : Ready s' log
  pub formed : AllFormed s → AllFormed s'

-- the cells as `count` leaves them
pub record Counted (s s' : List ℕ) : Type 0 where
  pub is : (e : Rest) → count (state_of e s) ≡ done tt (state_of e s')
  pub formed : AllFormed s → AllFormed s'

-- the end of a cycle: all stays and H3 counts one more, or the log is undone
unfoldable pub Settled : Result ℕ Refusal → List ℕ → List ℕ → List ℕ → Type 0
Settled (Ok n) l s s' = Counted s s'
Settled (Err e) l s s' = s' ≡ rewind_of l s

pub record Settles (outcome : Result ℕ Refusal) (l s s' : List ℕ) (r : Result ℕ Refusal) : Type 0 where
  pub same : r ≡ outcome
  pub settled : Settled outcome l s s'
