-- What the contracts of the loader say: the outcome of a load in numbers, and what its steps rely on.
use Rattle.std.specs.Prelude.{ℕ, zero, suc, ◌+◌, ◌≤◌, Bool, true, false, cond, List, [], ◌∷◌, ◌≡◌, length, replicate, Result, Ok, Err, IfOk}
use Rattle.std.proofs.Math.Option.{Option}
use Rattle.paper.specs.declared.Fault.{Fault}
use Rattle.paper.specs.declared.LoadAnswer.TheVariants.{Loaded as AnswerLoaded, Broken}
use Rattle.paper.specs.Cell.{Region, word, zeros, size_fits}
use Rattle.paper.specs.Limits.{largest_n}
use Rattle.paper.specs.Region.{is_letter, layout, letter_taken}
use Rattle.paper.specs.Step.{◌>>=◌, ◌>>◌, ret}
use Rattle.paper.specs.Record.{Record as PaperRecord}
use Rattle.paper.specs.Deck.{Load, LoadOutcome, load, ending, records, fresh_book, well_formed, load_record, is_start}
use Rattle.cells.specs.Pack.{packed, AllFormed}
use Rattle.cells.specs.Bridge.{unpacked}
use Rattle.regions.specs.declared.Regions.{Regions}
use Rattle.regions.specs.Table.{regions_of, no_regions, with_region, Laid}
use Rattle.records.specs.declared.Record.{Record}
use Rattle.records.specs.declared.Record.TheVariants.{Region as RegionRecord, Routine, Datum, Number, Start}
use Rattle.steps.specs.Follows.{seen_as}
use Rattle.book.specs.declared.locals.Local.{Local}
use Rattle.book.specs.declared.Notes.{Notes}
use Rattle.book.specs.Kept.{held}
use Rattle.book.specs.Booked.{LentCells, LentLocals, LentNames, Booked}
use Rattle.deck.specs.declared.Loaded.{Loaded}
use Rattle.deck.specs.declared.Placed.{Placed}

-- the table of a list of regions
unfoldable pub table_from : Regions → List Region → Regions
table_from t [] = t
table_from t (r ∷ rs) = table_from (with_region t r.letter r.count) rs

abbrev pub table_of : List Region → Regions
table_of rs = table_from no_regions rs

-- THE CONTRACT of `load`: the answer, the region table and every number of the slice are those of the definition; where N is out of range
-- the slice is as it was
pub record Loads (deck s s' : List ℕ) (r : Loaded) : Type 0 where
  pub answer : r.answer ≡ (load deck (unpacked s)).answer
  pub regions : regions_of r.regions ≡ (load deck (unpacked s)).regions
  pub table : r.regions ≡ table_of (load deck (unpacked s)).regions
  pub numbers : s' ≡ cond (size_fits (length s)) (packed (load deck (unpacked s)).cells) s

-- a record is loaded: was it the start? (the last lines of `load_one`)
unfoldable pub ordinary : Load (Unit {0}) → Load Bool
ordinary M = M >> ret false

unfoldable pub one_record : ℕ → PaperRecord → Load Bool
one_record size x = load_record size x >> ret (is_start x)

unfoldable pub one_parsed : ℕ → Option PaperRecord → Load Bool
one_parsed size o = well_formed o >>= one_record size

-- where a record that is refused leaves the table and the notes: as they were
abbrev pub stopped : Regions → Notes → Placed
stopped t k = record { last = false; notes = k; regions = t }

abbrev pub placed_or : Placed → Result Placed Fault → Placed
placed_or x (Ok y) = y
placed_or x (Err e) = x

-- what the record loop answers, a table or a fault with its offset, and the numbers left, as the outcome
abbrev pub outcome_of : ℕ → Result Regions (Fault × ℕ) → List ℕ → LoadOutcome
outcome_of size (Ok r) s = record { answer = AnswerLoaded; cells = unpacked s; regions = regions_of r }
outcome_of size (Err f) s = record { answer = Broken f.0 f.1; cells = replicate size (word zeros); regions = [] }

-- how many of the k letters from b on can still be those of a region
unfoldable pub unused : List Region → ℕ → ℕ → ℕ
unused rs b zero = 0
unused rs b (suc k) = cond (letter_taken (layout rs) b) 0 1 + unused rs (b + 1) k

-- a table that the loader made: its regions end within the largest store, and each letter that it holds is one less to come
pub record Made (r : Regions) : Type 0 where
  pub laid : Laid r
  pub room : length (regions_of r) + unused (regions_of r) 65 26 ≤ 23
  pub made : r ≡ table_of (regions_of r)

-- what a record comes to: the block's result, and a table to go on with
pub record PlacesIn (M : Load Bool) (t : Regions) (k : Notes) (l : List Local) (s : List ℕ) (m : List Bool) (l' : List Local) (s' : List ℕ) (m' : List Bool)
    (r : Result Placed Fault) : Type 0 where
  pub did : let x = placed_or (stopped t k) r in
      Booked M (held (regions_of t) k l s m) (held (regions_of x.regions) x.notes l' s' m') (seen_as (λ x. x.last) r)
  pub made : Made (placed_or (stopped t k) r).regions

abbrev pub Places : Load Bool → Regions → Notes → LentLocals → LentCells → LentNames → Result Placed Fault → Type 0
Places M t k locals cells names r =
    PlacesIn M t k locals.entry.now cells.entry.now names.entry.now locals.exit.now cells.exit.now names.exit.now r

-- cells in range, and a mark for each
pub record Sized (s : List ℕ) (m : List Bool) : Type 0 where
  pub few : length s ≤ largest_n
  pub marks : length m ≡ length s

-- "letter": what a region record that was parsed has
abbrev pub Lettered : Record → Type 0
Lettered (RegionRecord b n) = is_letter b ≡ true
Lettered (Routine name p q symb link) = Unit {0}
Lettered (Datum name symb link) = Unit {0}
Lettered (Number name v) = Unit {0}
Lettered (Start b n) = Unit {0}

-- what the record loop comes to: the outcome of the definition, but for the zeros of a refused load
pub record Ends (deck : List ℕ) (s s' : List ℕ) (r : Result Regions (Fault × ℕ)) : Type 0 where
  pub is : ending (length s) (records (length s) (suc (length deck)) 0 deck (fresh_book (length s) [])) ≡ outcome_of (length s) r s'
  pub formed : AllFormed s'
  pub made : IfOk r (λ t. t ≡ table_of (regions_of t))
