-- The bridge from the lent numbers to the definitions' state. It is crossed where a cell is read or written, and nowhere else.
use Rattle.std.specs.Prelude.{ℕ, List, map}
use Rattle.paper.specs.Cell.{Cell, cell_at, Region, State}
use Rattle.cells.specs.Layout.{unpack_of}

abbrev pub unpacked : List ℕ → List Cell
unpacked s = map unpack_of s

-- the cell at c of the numbers s
unfoldable pub cell_in : List ℕ → ℕ → Cell
cell_in s c = cell_at (unpacked s) c

-- what of a state is not in the cells
pub record Rest : Type 0 where
  pub regions : List Region
  pub lines : List ℕ
  pub room : ℕ

abbrev pub state_of : Rest → List ℕ → State
state_of e s = record { cells = unpacked s; regions = e.regions; lines = e.lines; room = e.room }
