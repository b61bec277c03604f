-- J1 after J1, and the execution that they come to.
use Rattle.std.specs.Prelude.{ℕ, suc, ◌+◌, ◌≡◌, Bool, false, ◌&&◌, List, eqb, length, Result, Ok, Err}
use Rattle.paper.specs.declared.Refusal.{Refusal}
use Rattle.paper.specs.declared.Symbol.{Symbol}
use Rattle.paper.specs.Cell.{State, is_process, J}
use Rattle.paper.specs.Act.{Act}
use Rattle.paper.specs.Cycle.{execute, executes}
use Rattle.cells.specs.Bridge.{cell_in}
use Rattle.steps.specs.Follows.{World, Follows}
use Rattle.undo.specs.Did.{Top, lent}

-- as `Follows`, where N is still to be done: M from the state before comes to what N comes to from the state after
pub record Reaches {A : Type 0} (W : World State Refusal) (K : W.Rest → Type 0) (k : ℕ) (M N : Act A) (x y : W.Held) : Type 0 where
  pub is : (e : W.Rest) → K e → M (W.state e x) ≡ N (W.state e y)
  pub kept : W.Kept k x y

-- J1 is to be done: c is its cell, a process
abbrev pub is_j1 : List ℕ → ℕ → Bool
is_j1 s c = eqb c (J 1) && is_process (cell_in s c)

-- past all J1 a symbol is left to be executed, and is not J1; each J1 took a turn and one write
pub record Left (top : ℕ) (x : Symbol) (s l s' l' : List ℕ) (y : Symbol) : Type 0 where
  pub turns : ℕ
  pub reaches : Reaches lent (Top top) (length s + 1) (executes x) (execute (suc turns) y) (s, l) (s', l')
  pub other : is_j1 s' y.num ≡ false

-- or the execution is refused
unfoldable pub Past : ℕ → Symbol → List ℕ → List ℕ → List ℕ → List ℕ → Result Symbol Refusal → Type 0
Past top x s l s' l' (Ok y) = Left top x s l s' l' y
Past top x s l s' l' (Err e) = Follows lent (Top top) (length s + 1) (executes x) (s, l) (s', l') (Err e)
