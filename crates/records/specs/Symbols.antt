-- What the code reads of a record, as the definitions have it: a symbol, a record, and where the symbols of a record stand.
use Rattle.std.specs.Prelude.{ℕ, ◌<◌, cond, ◌||◌, List, ◌≡◌, eqb, ltb, get_or, length, Option as CodeOption, Some, None}
use Rattle.std.proofs.Math.Option.{Option, none, some}
use Rattle.paper.specs.declared.Field.{Field}
use Rattle.paper.specs.declared.Field.TheVariants.{Regional}
use Rattle.paper.specs.Record.{Name, in_region, as_local, no_name, Record, region, routine, datum, number, start, byte_at, size_of, field_at}
use Rattle.cells.specs.Layout.{term_of}
use Rattle.records.specs.declared.Name.{Name as CodeName}
use Rattle.records.specs.declared.Name.TheVariants.{Regional as InRegion, Local as AsLocal, Blank as NoName}
use Rattle.records.specs.declared.Record.{Record as CodeRecord}
use Rattle.records.specs.declared.Record.TheVariants.{Region, Routine, Datum, Number, Start}

-- an Option of the code, as the definitions have it
abbrev pub option_of : {A : Type 0} → CodeOption A → Option A
option_of (Some x) = some x
option_of None = none

abbrev pub name_of : CodeName → Name
name_of (InRegion b n) = in_region b n
name_of (AsLocal n) = as_local n
name_of NoName = no_name

abbrev pub record_of : CodeRecord → Record
record_of (Region b n) = region b n
record_of (Routine name p q symb link) = routine (name_of name) p q symb link
record_of (Datum name symb link) = datum (name_of name) symb link
record_of (Number name x) = number (name_of name) (term_of x)
record_of (Start b n) = start b n

-- how many symbols a record has by its kind: a word NAME, SYMB and LINK, a data term its NAME, the last record the start symbol
abbrev pub symbols_in : ℕ → ℕ
symbols_in kind = cond (eqb kind 1) 0 (cond (eqb kind 2) 3 (cond (eqb kind 3) 3 1))

-- no symbol is read of a record of unknown kind (3) or one that runs past the end (2)
abbrev pub symbols_at : List ℕ → ℕ
symbols_at r = cond (eqb (size_of (byte_at r 0)) 0 || ltb (length r) (size_of (byte_at r 0))) 0 (symbols_in (byte_at r 0))

-- where symbol i stands: P and Q of a routine word come before its SYMB
abbrev pub place_of : ℕ → ℕ → ℕ
place_of kind i = cond (eqb i 0) 1 (cond (eqb i 1) (cond (eqb kind 2) 6 4) (cond (eqb kind 2) 9 7))

-- past the end of an array, as the code's own reading has it
abbrev pub symbol_at : List Field → ℕ → Field
symbol_at fs i = get_or fs i (Regional 0 0)

-- the first n symbols of the record r are well written, and are these
pub record Written (kind : ℕ) (r : List ℕ) (fs : List Field) (n : ℕ) : Type 0 where
  pub are : (i : ℕ) → i < n → field_at r (place_of kind i) ≡ some (symbol_at fs i)
