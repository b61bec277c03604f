-- Demand 1, carried to the loader's call: of every outcome that the contract of `deck::load` allows. Each statement can be read without its
-- proof.
use Rattle.paper.proofs.Kit.{ℕ, zero, suc, ◌≤◌, ◌≡◌, refl, sym, ap, subst, ◌∙◌, Bool, true, false, cond, List, [], ◌∷◌, arith, ltb, ltb-true, length}
use Rattle.paper.proofs.Kit.{replicate, length-map, pos, some}
use Rattle.paper.specs.declared.Fault.{Fault}
use Rattle.paper.specs.declared.Fault.TheVariants.{PastEnd, UnknownKind, BadField, BadRegion, BadName, NoWord, NoCell, NotEnded, Hopeless}
use Rattle.paper.specs.declared.LoadAnswer.{LoadAnswer}
use Rattle.paper.specs.declared.LoadAnswer.TheVariants.{Loaded as AnswerLoaded, BadSize, Broken}
use Rattle.paper.specs.Limits.{largest_budget}
use Rattle.paper.specs.Answer.{load_number, fault_number}
use Rattle.paper.specs.Cell.{integer, Cell, Region, word, term, cell_at, zeros, size_fits, H}
use Rattle.paper.specs.Sound.{sound}
use Rattle.paper.specs.Region.{letter_j}
use Rattle.paper.specs.declared.Field.{Field}
use Rattle.paper.specs.declared.Field.TheVariants.{Regional}
use Rattle.paper.specs.Record.{Name, routine, record_at}
use Rattle.paper.specs.Process.{is_listed}
use Rattle.paper.specs.Deck.{Ended, complete, broken, LoadOutcome, ending, records, fresh_book, load}
use Rattle.paper.proofs.SoundTest.{sound-from}
use Rattle.paper.proofs.Demand1.{Runnable, FreeListed, free-listed}
use Rattle.paper.proofs.DeckLaws.{Starts}
use Rattle.paper.proofs.LoadLaws.{ready, Leaves, load-leaves}
use Rattle.paper.proofs.HopelessLaws.{Begins, loaded-lists}
use Rattle.cells.specs.Pack.{pack_of, packed}
use Rattle.cells.specs.Bridge.{unpacked}
use Rattle.cells.proofs.Store.{unpacked-length}
use Rattle.regions.specs.declared.Regions.{Regions}
use Rattle.regions.specs.Table.{no_regions, and_region, with_region}
use Rattle.sound.specs.Store.{state_with, store_sound}
use Rattle.sound.proofs.SoundLaws.{in-form, passed-sound}
use Rattle.sound.proofs.FitLaws.{sound-fits, unpacked-packed, packed-formed}
use Rattle.deck.specs.declared.Loaded.{Loaded}
use Rattle.deck.specs.Load.{table_from, table_of, Loads}
use Rattle.machine.specs.declared.Ran.{Ran}
use Rattle.machine.specs.Numbers.{numbers, run_on}
use Rattle.machine.proofs.Carried.{Before, run-answers}

-- a table has no more than 23 regions
with-few : (t : Regions) (b k : ℕ) → t.n ≤ 23 → (with_region t b k).n ≤ 23
unfolding with_region
with-few t b k h = go (ltb t.n 23) refl
  where
    go : (x : Bool) → ltb t.n 23 ≡ x → (cond x (and_region t b k) t).n ≤ 23
    go true e = omega (arith, ltb-true t.n 23 e)
    go false e = h

table-few : (t : Regions) (rs : List Region) → t.n ≤ 23 → (table_from t rs).n ≤ 23
unfolding table_from
table-few t [] h = h
table-few t (r ∷ rs) h = table-few (with_region t r.letter r.count) rs (with-few t r.letter r.count h)

packed-zeros : (n : ℕ) → packed (replicate n (word zeros)) ≡ replicate n 0
packed-zeros zero = refl
packed-zeros (suc n) = ap (λ s. 0 ∷ s) (packed-zeros n)

-- a fault is answered 2 to 9 or 11
fault-from : (f : Fault) → 2 ≤ fault_number f
fault-from PastEnd = omega arith
fault-from UnknownKind = omega arith
fault-from BadField = omega arith
fault-from BadRegion = omega arith
fault-from BadName = omega arith
fault-from NoWord = omega arith
fault-from NoCell = omega arith
fault-from NotEnded = omega arith
fault-from Hopeless = omega arith

module _ (deck : List ℕ) (before : List Cell) where
  -- the definition, by the test of N
  in-range : size_fits (length before) ≡ true
      → load deck before ≡ ending (length before) (records (length before) (suc (length deck)) 0 deck (fresh_book (length before) []))
  unfolding load
  in-range e = rw (e, load)

  out_of_range : size_fits (length before) ≡ false → load deck before ≡ record { answer = BadSize; cells = before; regions = [] }
  unfolding load
  out_of_range e = rw (e, load)

-- what a load that is answered 0 leaves: numbers and a table that the test of a run passes, they are the definition's, H3 counts 0, and H1 names no
-- process that is not listed
pub record Fit (r : Loaded) (s' : List ℕ) (l : LoadOutcome) : Type 0 where
  pub size : size_fits (length s') ≡ true
  pub passes : store_sound r.regions s' ≡ true
  pub is : (room : ℕ) → state_with r.regions s' [] room ≡ ready l room
  pub counts : cell_at (unpacked s') (H 3) ≡ term (integer (pos 0))
  pub starts : Starts (unpacked s')

-- the three ways of a load
data Way (s s' : List ℕ) (r : Loaded) (l : LoadOutcome) : Type 0 where
  loaded : r.answer ≡ AnswerLoaded → Fit r s' l → Way s s' r l
  refused : (f : Fault) (o : ℕ) → r.answer ≡ Broken f o → s' ≡ replicate (length s) 0 → r.regions ≡ no_regions → Way s s' r l
  small : r.answer ≡ BadSize → s' ≡ s → r.regions ≡ no_regions → Way s s' r l

-- Whatever a load answers and leaves.
module _ (deck s : List ℕ) {s' : List ℕ} {r : Loaded} (allowed : Loads deck s s' r) where
  abbrev outcome : LoadOutcome
  outcome = load deck (unpacked s)

  sized : {b : Bool} → size_fits (length s) ≡ b → size_fits (length (unpacked s)) ≡ b
  sized e = ap size_fits (unpacked-length s) ∙ e

  table_is : {l : LoadOutcome} → outcome ≡ l → r.regions ≡ table_of l.regions
  table_is e = allowed.table ∙ ap (λ (l : LoadOutcome). table_of l.regions) e

  answer-is : {l : LoadOutcome} → outcome ≡ l → r.answer ≡ l.answer
  answer-is e = allowed.answer ∙ ap (λ (l : LoadOutcome). l.answer) e

  none_left : {l : LoadOutcome} → outcome ≡ l → l.regions ≡ [] → r.regions ≡ no_regions
  unfolding table_from
  none_left e z = table_is e ∙ ap table_of z

  numbers-are : size_fits (length s) ≡ true → {l : LoadOutcome} → outcome ≡ l → s' ≡ packed l.cells
  numbers-are e {l} p =
      let q : s' ≡ packed outcome.cells = rw e at allowed.numbers in
      q ∙ ap (λ (x : LoadOutcome). packed x.cells) p

  fits : (l : LoadOutcome) → outcome ≡ l → s' ≡ packed l.cells → ((room : ℕ) → Runnable (ready l room))
      → cell_at l.cells (H 3) ≡ term (integer (pos 0)) → Starts l.cells → Fit r s' outcome
  fits l e n k z b =
      let t = sound-from (ready l 0) (k 0).size (k 0).test in
      let each = sound-fits t.frame (ready l 0) t.is_sound in
      let left : unpacked s' ≡ l.cells = ap unpacked n ∙ unpacked-packed l.cells each in
      let cs : unpacked s' ≡ outcome.cells = left ∙ ap (λ (x : LoadOutcome). x.cells) (sym e) in
      let is : (room : ℕ) → state_with r.regions s' [] room ≡ ready outcome room =
      (λ room. λ i. record { cells = cs i; regions = allowed.regions i; lines = []; room = room }) in
      let few : r.regions.n ≤ 23 = subst (λ (x : Regions). x.n ≤ 23) (sym allowed.table) (table-few no_regions outcome.regions (omega arith)) in
      record {
        size = ap size_fits (ap length n ∙ length-map l.cells pack_of) ∙ (k 0).size;
        passes =
            in-form r.regions s' [] 0 few (rw n (packed-formed l.cells each))
            ∙ ap sound (is 0) ∙ ap (λ (x : LoadOutcome). sound (ready x 0)) e ∙ (k 0).test;
        is = is;
        counts = ap (λ cs. cell_at cs (H 3)) left ∙ z;
        starts = subst Starts (sym left) b;
      }

  way : Way s s' r outcome
  way = by_size (size_fits (length s)) refl
    where
      by_end : size_fits (length s) ≡ true → (x : Ended) → outcome ≡ ending (length (unpacked s)) x → Way s s' r outcome
      by_end e (complete b) p =
          let (runs, counts, starts) = subst (λ (l : LoadOutcome). Leaves (unpacked s) l l.answer) p (load-leaves deck (unpacked s)) in
          loaded (answer-is p) (fits (ending (length (unpacked s)) (complete b)) p (numbers-are e p) runs counts starts)
      by_end e (broken f o) p =
          refused f o (answer-is p)
          (numbers-are e p ∙ packed-zeros (length (unpacked s)) ∙ ap (λ n. replicate n 0) (unpacked-length s))
          (none_left p refl)

      by_size : (b : Bool) → size_fits (length s) ≡ b → Way s s' r outcome
      by_size true e =
          by_end e (records (length (unpacked s)) (suc (length deck)) 0 deck (fresh_book (length (unpacked s)) []))
          (in-range deck (unpacked s) (sized e))
      by_size false e =
          let p = out_of_range deck (unpacked s) (sized e) in
          small (answer-is p) (rw e at allowed.numbers) (none_left p refl)

  number_is : {a : LoadAnswer} → r.answer ≡ a → load_number r.answer ≡ load_number a
  number_is e = ap load_number e

  -- answered 0: the state of the numbers and the table is the definition's, whatever the room, and it passes the test of a run
  pub loaded-fits : load_number r.answer ≡ 0 → Fit r s' outcome
  loaded-fits h = go way
    where
      go : Way s s' r outcome → Fit r s' outcome
      go (loaded a f) = f
      go (refused f o a n t) = absurd (omega (arith, h, number_is a, fault-from f))
      go (small a n t) = absurd (omega (arith, h, number_is a))

  -- answered 0: `machine::run`, with any room and any budget up to 1,000,000, answers neither 1 nor 20
  pub loaded-runs : load_number r.answer ≡ 0 → (budget : ℕ) → budget ≤ largest_budget → (out : List ℕ) {ran : Ran} {s'' out' : List ℕ}
      → numbers ran s'' out' ≡ run_on r.regions budget s' out → Before ran.answer → ⊥
  loaded-runs h budget k out e = let f = loaded-fits h in run-answers r.regions budget s' out e f.size f.passes k

  -- answered 0: "the free cells are exactly those on the H2 list, each once"
  pub loaded-lists-free : load_number r.answer ≡ 0 → FreeListed (state_with r.regions s' [] 0)
  loaded-lists-free h =
      let f = loaded-fits h in
      free-listed (state_with r.regions s' [] 0) (record {
        size = ap size_fits (unpacked-length s') ∙ f.size;
        test = passed-sound r.regions s' [] 0 f.passes;
      })

  -- answered 0: H3 counts 0
  pub loaded-counts : load_number r.answer ≡ 0 → cell_at (unpacked s') (H 3) ≡ term (integer (pos 0))
  loaded-counts h = (loaded-fits h).counts

  -- answered 0: if H1 names a process, it is listed (CR 5)
  pub loaded-starts : load_number r.answer ≡ 0 → Starts (unpacked s')
  loaded-starts h = (loaded-fits h).starts

  loaded-as : load_number r.answer ≡ 0 → r.answer ≡ AnswerLoaded
  loaded-as h = go way
    where
      go : Way s s' r outcome → r.answer ≡ AnswerLoaded
      go (loaded a f) = a
      go (refused f o a n t) = absurd (omega (arith, h, number_is a, fault-from f))
      go (small a n t) = absurd (omega (arith, h, number_is a))

  -- answered 0: a routine word with P 0 and Q 0, wherever in the deck its record b begins, calls no process that is not listed (CR 5)
  pub loaded-calls : load_number r.answer ≡ 0 → {b : List ℕ} → Begins deck b → (name : Name) (link : Field) (n : ℕ)
      → record_at b ≡ some (routine name 0 0 (Regional letter_j n) link) → is_listed n ≡ true
  loaded-calls h begins name link n = loaded-lists name link n deck (unpacked s) (sym allowed.answer ∙ loaded-as h) begins

  -- "Load answers 2 to 9 leave all cells zero (words of zeros) and the region table empty."; CR 5: 11 too
  pub refused-leaves-zeros : 2 ≤ load_number r.answer → (s' ≡ replicate (length s) 0) × (r.regions ≡ no_regions)
  refused-leaves-zeros h = go way
    where
      go : Way s s' r outcome → (s' ≡ replicate (length s) 0) × (r.regions ≡ no_regions)
      go (loaded a f) = absurd (omega (arith, h, number_is a))
      go (refused f o a n t) = (n, t)
      go (small a n t) = absurd (omega (arith, h, number_is a))

  -- 1: "N out of range; store untouched"
  pub size-leaves : load_number r.answer ≡ 1 → (s' ≡ s) × (r.regions ≡ no_regions)
  size-leaves h = go way
    where
      go : Way s s' r outcome → (s' ≡ s) × (r.regions ≡ no_regions)
      go (loaded a f) = absurd (omega (arith, h, number_is a))
      go (refused f o a n t) = absurd (omega (arith, h, number_is a, fault-from f))
      go (small a n t) = (n, t)
