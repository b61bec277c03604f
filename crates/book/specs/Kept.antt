-- What the code keeps while it loads, as the book of the definitions.
use Rattle.std.specs.Prelude.{ℕ, ◌%◌, Bool, true, false, List, map, ◌≡◌, leb}
use Rattle.paper.specs.Cell.{Region}
use Rattle.paper.specs.Deck.{LocalCell, Book}
use Rattle.cells.specs.Bridge.{unpacked}
use Rattle.regions.specs.declared.Regions.{Regions}
use Rattle.regions.specs.Table.{regions_of}
use Rattle.book.specs.declared.locals.Local.{Local}
use Rattle.book.specs.declared.Notes.{Notes}

-- a local as the definitions have it
abbrev pub local_of : Local → LocalCell
local_of x = record { cell = x.bits % 65536; has_word = leb 65536 x.bits }

abbrev pub locals_of : List Local → List LocalCell
locals_of l = map local_of l

abbrev pub unmentioned : Local
unmentioned = record { bits = 0 }

-- the regions, the notes, the locals, the numbers of the cells, and the names
pub record Held : Type 0 where
  pub regions : List Region
  pub notes : Notes
  pub locals : List Local
  pub numbers : List ℕ
  pub names : List Bool

abbrev pub held : List Region → Notes → List Local → List ℕ → List Bool → Held
held rs k l s m = record { regions = rs; notes = k; locals = l; numbers = s; names = m }

abbrev pub book_of : Held → Book
book_of h =
    record {
      cells = unpacked h.numbers;
      regions = h.regions;
      words = h.notes.words;
      opened = h.notes.opened;
      locals = locals_of h.locals;
      names = h.names;
      waiting = h.notes.waiting;
    }

-- the notes before any word
abbrev pub no_notes : Notes
no_notes = record { words = false; opened = false; waiting = 0 }

abbrev pub structure_noted : Notes → Notes
structure_noted k = record { words = true; opened = true; waiting = k.waiting }

abbrev pub waiting_noted : Notes → ℕ → Notes
waiting_noted k w = record { words = true; opened = k.opened; waiting = w }

-- what a test knows of the book
abbrev pub RegionsAre : Regions → Book → Type 0
RegionsAre r t = t.regions ≡ regions_of r

abbrev pub LocalsAre : List Local → Book → Type 0
LocalsAre l t = t.locals ≡ locals_of l

pub record NotedIn (r : Regions) (k : Notes) (l : List Local) (m : List Bool) (t : Book) : Type 0 where
  pub regions : t.regions ≡ regions_of r
  pub opened : t.opened ≡ k.opened
  pub locals : t.locals ≡ locals_of l
  pub names : t.names ≡ m
  pub waiting : t.waiting ≡ k.waiting
