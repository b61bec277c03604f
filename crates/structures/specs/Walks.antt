-- The contracts of the walk: what it begins with, and what it leaves in the order and the marks.
use Rattle.std.specs.Prelude.{ℕ, suc, ◌+◌, ◌<◌, ◌≤◌, ◌≡◌, Bool, true, false, cond, ◌&&◌, not, List, length, get_or, ltb, eqb, Result, Ok, Err}
use Rattle.paper.specs.declared.Refusal.{Refusal}
use Rattle.paper.specs.Limits.{smallest_n, largest_n, first_deck, deepest}
use Rattle.paper.specs.Cell.{Word, Cell, is_free, is_word, H}
use Rattle.paper.specs.Act.{Act, ◌>>=◌, ◌>>◌, ret, refuse_if, if_then, named}
use Rattle.paper.specs.declared.Refusal.TheVariants.{WrongKind, BadWalk}
use Rattle.paper.specs.Walk.{Trail, member, meet, enter}
use Rattle.cells.specs.Layout.{unpack_of, word_of, q_of, symb_of}
use Rattle.cells.specs.Bridge.{Rest}
use Rattle.steps.specs.Follows.{Follows, seen_as}
use Rattle.undo.specs.Did.{Always, reading}
use Rattle.structures.specs.Marks.{back, many_numbers, blank, Marked, unmet, Ordered}

-- M gets a value from the numbers s, or is refused: the answer r
abbrev pub Gets : {A : Type 0} → (Rest → Type 0) → Act A → List ℕ → Result A Refusal → Type 0
Gets K M s r = Follows reading K 0 M s s r

abbrev pub trail : List ℕ → List ℕ → Trail
trail cs heads = record { met = cs; entered = heads }

-- N is in range
pub record InRange (s : List ℕ) : Type 0 where
  pub large : smallest_n ≤ length s
  pub small : length s ≤ largest_n

-- in a walk: the first n of the order are marked, and there is room for the rest
pub record Holds (s order marks : List ℕ) (n : ℕ) : Type 0 where
  pub small : length s ≤ largest_n
  pub wide : length marks ≡ many_numbers
  pub ordered : Ordered s order n
  pub marked : Marked marks (back n order)
  pub room : n + unmet (length s) marks ≤ length s

-- a walk that has ended leaves its marks, and z cells or fewer without; a refusal takes all marks away
abbrev pub Left : List ℕ → List ℕ → List ℕ → ℕ → Result ℕ Refusal → Type 0
Left s order marks z (Ok n) = Holds s order marks n × (unmet (length s) marks ≤ z)
Left s order marks z (Err e) = marks ≡ blank

-- after the cells of `seen`, M comes to the cells that r tells, or is refused: whatever heads were entered before, they decide nothing
pub record Visits (M : Trail → Act Trail) (s seen : List ℕ) (r : Result (List ℕ) Refusal) : Type 0 where
  pub is : (heads : List ℕ) → (heads' : List ℕ) × Gets Always (M (trail seen heads)) s (seen_as (λ met. trail met heads') r)

-- how many cells of the order were met, as the cells themselves
abbrev pub met_in : List ℕ → Result ℕ Refusal → Result (List ℕ) Refusal
met_in order r = seen_as (λ n. back n order) r

-- a part of a walk that began with the marks m: it ends as is claimed with any number of turns above the cells that have none
pub record Ends (claim : ℕ → Result (List ℕ) Refusal → Type 0) (s m order marks : List ℕ) (r : Result ℕ Refusal) : Type 0 where
  pub says : (f : ℕ) → unmet (length s) m < f → claim f (met_in order r)
  pub left : Left s order marks (unmet (length s) m) r

-- the cell that comes next, reached by a LINK or as the head of a list at a depth: the checks of `follow` or of `enter`
unfoldable pub arrives : Bool → ℕ → ℕ → List ℕ → Act Cell
arrives linked depth c seen = do
  x ← meet c  -- 21, 22, 31
  refuse_if (linked && not (is_word x)) (WrongKind c)  -- 23
  refuse_if (member c seen) (BadWalk c)  -- 31
  refuse_if (not linked && ltb deepest depth) (BadWalk c)  -- 31
  ret x

-- its number, or why not, after any cells of which the marks tell
abbrev pub Arrives : List ℕ → List ℕ → Bool → ℕ → ℕ → Result ℕ Refusal → Type 0
Arrives s marks linked depth c r = (seen : List ℕ) → Marked marks seen → Gets Always (arrives linked depth c seen) s (seen_as unpack_of r)

-- all of the checks pass of the cell c, which holds x
pub record Fine (marks : List ℕ) (linked : Bool) (depth c : ℕ) (x : Cell) : Type 0 where
  pub high : first_deck ≤ c
  pub in_use : is_free x ≡ false
  pub kind : (linked && not (is_word x)) ≡ false
  pub unmarked : get_or marks c 0 ≡ 0
  pub shallow : (not linked && ltb deepest depth) ≡ false

-- the same of a chain: the checks of `chain`
unfoldable pub chains : ℕ → List ℕ → Act Word
chains c seen = do
  w ← named c  -- 21, 22, 23, 27
  refuse_if (member c seen) (BadWalk c)  -- 31
  ret w

abbrev pub Chains : List ℕ → List ℕ → ℕ → Result ℕ Refusal → Type 0
Chains s marks c r = (seen : List ℕ) → Marked marks seen → Gets Always (chains c seen) s (seen_as word_of r)

pub record FineLink (marks : List ℕ) (c : ℕ) (x : Cell) : Type 0 where
  pub high : H 2 < c
  pub kind : is_word x ≡ true
  pub unmarked : get_or marks c 0 ≡ 0

-- the list that a word names, 0 for none
abbrev pub list_of : ℕ → ℕ
list_of w = cond (eqb (q_of w) 2) (symb_of w) 0

-- the list that a cell at a depth names, 0 for none
unfoldable pub sublist : ℕ → ℕ → ℕ → Trail → Act Trail
sublist depth c f t = if_then (eqb c 0) (ret t) (enter f (suc depth) c t)

-- a walk: its cells are in the order
abbrev pub Listed : List ℕ → List ℕ → Result ℕ Refusal → Type 0
Listed s order (Ok n) = (n ≤ length s) × Ordered s order n
Listed s order (Err e) = Unit {0}

pub record Lists (block : Act (List ℕ)) (s order : List ℕ) (r : Result ℕ Refusal) : Type 0 where
  pub says : Gets Always block s (met_in order r)
  pub listed : Listed s order r
