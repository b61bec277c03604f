-- A copy keeps the new cell of each old one in the marks: the table old to new.
use Rattle.std.specs.Prelude.{ℕ, ◌+◌, ◌-◌, ◌≤◌, ◌≡◌, true, false, List, [], ◌∷◌, map, length, get_or, take, Result, Ok, Err}
use Rattle.paper.specs.declared.Refusal.{Refusal}
use Rattle.paper.specs.Cell.{Cell, is_free, word_in, free_link, cell_at, H}
use Rattle.paper.specs.Walk.{member, copy_all}
use Rattle.cells.specs.Bridge.{unpacked, cell_in}
use Rattle.steps.specs.Follows.{Follows}
use Rattle.undo.specs.Log.{used}
use Rattle.undo.specs.Did.{Always, lent}
use Rattle.structures.specs.declared.copies.Found.{Found}
use Rattle.structures.specs.Marks.{blank, Only}
use Rattle.structures.specs.Net.{copy_of}

-- the new cell of an old one, 0 where it has none
abbrev pub new_of : List ℕ → ℕ → ℕ
new_of marks c = get_or marks c 0

-- the new cells of those met
abbrev pub news_of : List ℕ → List ℕ → List ℕ
news_of marks met = map (new_of marks) met

-- from x the free list goes over the cells ns to y
abbrev pub Run : List Cell → ℕ → List ℕ → ℕ → Type 0
Run cs x [] y = x ≡ y
Run cs x (n ∷ ns) y = (n ≡ x) × (x ≡ 0 → ⊥) × (is_free (cell_at cs x) ≡ true) × Run cs (free_link (cell_at cs x)) ns y

-- new cells were found for the first of those met: the free list goes over them from H2
pub record Finds (s met marks : List ℕ) (r : Found) : Type 0 where
  pub few : r.n ≤ length met
  pub only : Only marks (take r.n met)
  pub run : Run (unpacked s) (word_in (cell_in s (H 2))).link (news_of marks (take r.n met)) r.next

-- they were found for all, and the last is none of those before
pub record AllNew (met marks : List ℕ) (found : ℕ) : Type 0 where
  pub all : found ≡ length met
  pub some : length met ≡ 0 → ⊥
  pub last : member (new_of marks (get_or met (length met - 1) 0)) (news_of marks (take (length met - 1) met)) ≡ false

-- the new cells are noted for those met; a refusal takes all away
abbrev pub Leaves : List ℕ → List ℕ → Result (Unit {0}) Refusal → Type 0
Leaves met marks (Ok v) = Only marks met
Leaves met marks (Err e) = marks ≡ blank

-- what is copied into the new cells from here on makes a copy of the cells met; the writes so far and those to come are at most one more
-- than there are cells, since new cells are no old ones
pub record Prepared (met marks : List ℕ) (x y : List ℕ × List ℕ) : Type 0 where
  pub wrote : ℕ
  pub on : (c j : ℕ) (z : List ℕ × List ℕ) → Follows lent Always j (copy_all (new_of marks) met (news_of marks met)) y z (Ok tt)
      → Follows lent Always (wrote + j) (copy_of c met) x z (Ok (new_of marks c))
  pub count : used y.1 ≤ used x.1 + wrote
  pub fits : wrote + length met ≤ length x.0 + 1

-- or there is no copy, whichever of its cells were to name it
abbrev pub Prepares : List ℕ → List ℕ → List ℕ × List ℕ → List ℕ × List ℕ → Result (Unit {0}) Refusal → Type 0
Prepares met marks x y (Ok v) = Prepared met marks x y
Prepares met marks x y (Err e) = (c : ℕ) → Follows lent Always (length x.0 + 1) (copy_of c met) x y (Err e)
