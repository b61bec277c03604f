-- The contracts of the loader: what code has done that follows a block over the book. After a fault nothing is said of the book.
use Rattle.std.specs.Prelude.{ℕ, Bool, List, Result, Ok, Err}
use denote.Triple.Both.{Both}
use Rattle.std.specs.Borrow.{MutBor}
use Rattle.paper.specs.declared.Fault.{Fault}
use Rattle.paper.specs.Cell.{Region}
use Rattle.paper.specs.Deck.{Book, Load}
use Rattle.cells.specs.Pack.{AllFormed}
use Rattle.steps.specs.Follows.{World, Follows, Always, testing, seen_as}
use Rattle.regions.specs.declared.Regions.{Regions}
use Rattle.regions.specs.Table.{regions_of}
use Rattle.book.specs.declared.locals.Local.{Local}
use Rattle.book.specs.declared.Notes.{Notes}
use Rattle.book.specs.Kept.{Held, held, book_of}

-- the loader holds all of its state; a number that is written is that of its cell; writes are not counted
abbrev pub loading : World Book Fault
loading =
    record {
      Held = Held;
      Rest = Unit {0};
      state = λ e h. book_of h;
      Kept = λ k x y. AllFormed x.numbers → AllFormed y.numbers;
      same = λ x f. f;
      joined = λ k j x y z p q f. q (p f);
      more = λ k i x y h p. p;
    }

-- a test of a book of which K is known
abbrev pub Told : (Book → Type 0) → Load (Unit {0}) → Result (Unit {0}) Fault → Type 0
Told K M r = Follows (testing Book Fault) K 0 M tt tt r

-- what writes: from h to h'
abbrev pub Booked : {A : Type 0} → Load A → Held → Held → Result A Fault → Type 0
Booked M h h' r = Follows loading Always 0 M h h' r

-- an answer with the notes after it: the value, and these notes; a fault leaves the notes k
abbrev pub Noting : Type 0 → Type 0
Noting A = Result (Notes × A) Fault

abbrev pub value_of : {A : Type 0} → Noting A → Result A Fault
value_of r = seen_as (λ x. x.1) r

abbrev pub notes_after : {A : Type 0} → Notes → Noting A → Notes
notes_after k (Ok x) = x.0
notes_after k (Err e) = k

-- lent cells, locals and names, before and after
abbrev pub LentCells : Type 0
LentCells = Both (MutBor (List ℕ)) (MutBor (List ℕ))

abbrev pub LentLocals : Type 0
LentLocals = Both (MutBor (List Local)) (MutBor (List Local))

abbrev pub LentNames : Type 0
LentNames = Both (MutBor (List Bool)) (MutBor (List Bool))

-- on the cells, whatever the regions, the notes, the locals and the names are
abbrev pub OnCells : {A : Type 0} → Load A → LentCells → Result A Fault → Type 0
OnCells M cells r =
    (rs : List Region) (k : Notes) (l : List Local) (m : List Bool)
    → Booked M (held rs k l cells.entry.now m) (held rs k l cells.exit.now m) r

-- on the locals and the cells, whatever the regions, the notes and the names are
abbrev pub OnLocals : {A : Type 0} → Load A → LentLocals → LentCells → Result A Fault → Type 0
OnLocals M locals cells r =
    (rs : List Region) (k : Notes) (m : List Bool)
    → Booked M (held rs k locals.entry.now cells.entry.now m) (held rs k locals.exit.now cells.exit.now m) r

-- on the notes and the cells, whatever the regions, the locals and the names are
abbrev pub OnNotes : {A : Type 0} → Load A → Notes → LentCells → Notes → Result A Fault → Type 0
OnNotes M k cells k' r =
    (rs : List Region) (l : List Local) (m : List Bool)
    → Booked M (held rs k l cells.entry.now m) (held rs k' l cells.exit.now m) r

-- with a table of regions, whatever the notes and the names are
abbrev pub OnTable : {A : Type 0} → Load A → Regions → LentLocals → LentCells → Result A Fault → Type 0
OnTable M t locals cells r =
    (k : Notes) (m : List Bool)
    → Booked M (held (regions_of t) k locals.entry.now cells.entry.now m) (held (regions_of t) k locals.exit.now cells.exit.now m) r

-- with a table, notes and locals that stay, whatever the names are
abbrev pub OnKept : {A : Type 0} → Load A → Regions → Notes → List Local → LentCells → Result A Fault → Type 0
OnKept M t k l cells r =
    (m : List Bool) → Booked M (held (regions_of t) k l cells.entry.now m) (held (regions_of t) k l cells.exit.now m) r

-- on the notes, the locals and the names, whatever the cells are
abbrev pub OnNames : {A : Type 0} → Load A → Regions → Notes → LentLocals → LentNames → Noting A → Type 0
OnNames M t k locals names r =
    (s : List ℕ)
    → Booked M (held (regions_of t) k locals.entry.now s names.entry.now)
    (held (regions_of t) (notes_after k r) locals.exit.now s names.exit.now) (value_of r)

-- on all of it
abbrev pub OnAll : {A : Type 0} → Load A → Regions → Notes → LentLocals → LentCells → LentNames → Noting A → Type 0
OnAll M t k locals cells names r =
    Booked M (held (regions_of t) k locals.entry.now cells.entry.now names.entry.now)
    (held (regions_of t) (notes_after k r) locals.exit.now cells.exit.now names.exit.now) (value_of r)
