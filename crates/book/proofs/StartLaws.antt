-- The start cell c, which H1 names, and whether a run can begin there.
use Rattle.paper.proofs.Kit.{ℕ, ◌-◌, Bool, true, false, List, ◌≡◌, get_or}
use Rattle.paper.specs.Cell.{Region, word_in, H, J}
use Rattle.paper.specs.Region.{is_j}
use Rattle.paper.specs.Process.{is_listed}
use Rattle.paper.specs.Deck.{can_start}
use Rattle.cells.specs.Bridge.{cell_in}
use Rattle.book.specs.declared.locals.Local.{Local}
use Rattle.book.specs.declared.Notes.{Notes}
use Rattle.book.specs.Kept.{held, book_of}

module _ (s : List ℕ) (m : List Bool) (c : ℕ) (names : (word_in (cell_in s (H 1))).symb ≡ c) (rs : List Region) (k : Notes) (l : List Local) where
  pub of-process : is_j c ≡ true → is_listed (c - J 0) ≡ can_start (book_of (held rs k l s m))
  unfolding can_start cell_in
  of-process j = rw (names, j)

  pub of-cell : is_j c ≡ false → get_or m c false ≡ can_start (book_of (held rs k l s m))
  unfolding can_start cell_in
  of-cell j = rw (names, j)
