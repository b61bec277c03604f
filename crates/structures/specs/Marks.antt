-- The order: the cells that a walk has met, one after another. The marks: a number for each cell, 0 where it has not been met.
use Rattle.std.specs.Prelude.{ℕ, zero, suc, ◌+◌, ◌<◌, ◌≤◌, ◌≡◌, false, cond, not, List, [], ◌∷◌, reverse, length, get_or, take, replicate, eqb}
use Rattle.paper.specs.Limits.{largest_n}
use Rattle.paper.specs.Cell.{is_free}
use Rattle.paper.specs.Walk.{member}
use Rattle.cells.specs.Bridge.{cell_in}

-- the first n of the order, last first: what the definitions call `seen`
abbrev pub back : ℕ → List ℕ → List ℕ
back n order = reverse (take n order)

-- a cell is named by a number of 16 bits, and there is a mark for each
abbrev pub many_numbers : ℕ
many_numbers = 65536

abbrev pub blank : List ℕ
blank = replicate many_numbers 0

-- no cell twice
abbrev pub Once : List ℕ → Type 0
Once [] = Unit {0}
Once (c ∷ cs) = (member c cs ≡ false) × Once cs

-- the marked cells are those of `seen`
pub record Marked (marks seen : List ℕ) : Type 0 where
  pub is : (c : ℕ) → not (eqb (get_or marks c 0) 0) ≡ member c seen

-- no cell outside `seen` is marked
pub record Only (marks seen : List ℕ) : Type 0 where
  pub is : (c : ℕ) → member c seen ≡ false → get_or marks c 0 ≡ 0

-- how many of the first k cells have no mark
unfoldable pub unmet : ℕ → List ℕ → ℕ
unmet zero m = 0
unmet (suc k) [] = 0
unmet (suc k) (x ∷ xs) = cond (eqb x 0) 1 0 + unmet k xs

-- the first n of the order are cells of the numbers s in use, each once
pub record Ordered (s order : List ℕ) (n : ℕ) : Type 0 where
  pub sized : length order ≡ largest_n
  pub inside : (k : ℕ) → k < n → get_or order k 0 < length s
  pub in_use : (k : ℕ) → k < n → is_free (cell_in s (get_or order k 0)) ≡ false
  pub once : Once (back n order)

-- cells of the numbers s in use, each once
pub record Met (s met : List ℕ) : Type 0 where
  pub few : length met ≤ length s
  pub in_use : (k : ℕ) → k < length met → is_free (cell_in s (get_or met k 0)) ≡ false
  pub once : Once (reverse met)
