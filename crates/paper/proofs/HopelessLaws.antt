-- CR 5. What a deck that is loaded cannot have: a routine word with P 0 and Q 0 whose SYMB is a process that is not listed. And what 28 means in a run:
-- it is given to a process that is not listed, to each, and for nothing else.
use Rattle.paper.proofs.Kit.{clash, ◌≡◌, refl, subst, Bool, true, false, not-false, List, [], ◌∷◌, some, ℕ, zero, suc, ◌+◌, length, drop}
use Rattle.paper.specs.declared.Fault.{Fault}
use Rattle.paper.specs.declared.LoadAnswer.TheVariants.{Loaded, BadSize}
use Rattle.paper.specs.declared.RunAnswer.TheVariants.{Refused}
use Rattle.paper.specs.Step.{Res, done, refused, choose}
use Rattle.paper.specs.Cell.{Cell, J, State, size_fits}
use Rattle.paper.specs.Region.{letter_j}
use Rattle.paper.specs.Act.{NotListed}
use Rattle.paper.specs.Record.{Regional, Field, Name, Record, routine, record_at, size_of}
use Rattle.paper.specs.Deck.{Book, Ended, complete, broken, load_routine, load_record, well_formed, load_one, on_res, closing, records, fresh_book, load, ending, LoadOutcome}
use Rattle.paper.specs.Process.{is_listed, perform}
use Rattle.paper.specs.Cycle.{cycle}
use Rattle.paper.specs.Run.{run}
use Rattle.paper.proofs.Safe.{After, Safe, Any, bind, seq, weaken, safe-ret, safe-refuse_if}
use Rattle.paper.proofs.Goes.{asks-known}
use Rattle.paper.proofs.Demand1.{Runnable}
use Rattle.paper.proofs.PerformLaws.{unlisted}
use Rattle.paper.proofs.ListedLaws.{Unlisted, only-unlisted}
use Rattle.paper.proofs.CycleLines.{cycle-line}
use Rattle.paper.proofs.RunLines.{Unrun, refused_as, by-cycles}

-- a record of the deck begins at r
pub data Begins (deck : List ℕ) : List ℕ → Type 0 where
  first : Begins deck deck
  next : {k : ℕ} {r : List ℕ} → Begins deck (k ∷ r) → Begins deck (drop (size_of k) (k ∷ r))

-- nothing is left, or the records from r on were read to the end
data Reading (size : ℕ) (r : List ℕ) : Type 0 where
  over : r ≡ [] → Reading size r
  going : (left o : ℕ) (b c : Book) → records size left o r b ≡ complete c → Reading size r

-- so the record at hand was loaded, and those after it are read to the end
record Passed (size k : ℕ) (r : List ℕ) : Type 0 where
  book : Book
  last : Bool
  then : Book
  loaded : load_one size k (k ∷ r) book ≡ done last then
  rest : Reading size (drop (size_of k) (k ∷ r))

none_left : (o e : ℕ) (r : List ℕ) (b c : Book) → closing o e r b ≡ complete c → r ≡ []
unfolding closing
none_left o e [] b c h = refl
none_left o e (y ∷ ys) b c h = clash cc

passed : (size k : ℕ) (r : List ℕ) → Reading size (k ∷ r) → Passed size k r
unfolding records on_res
passed size k r (over p) = clash cc
passed size k r (going zero o b c h) = clash cc
passed size k r (going (suc left) o b c h) = go (load_one size k (k ∷ r) b) refl h
  where
    go : (q : Res Book Fault Bool) → load_one size k (k ∷ r) b ≡ q → on_res q (λ a. broken a o) (λ last d. elim last as (λ _. Ended) [
      | true ↦ closing o (o + size_of k) (drop (size_of k) (k ∷ r)) d
      | false ↦ records size left (o + size_of k) (drop (size_of k) (k ∷ r)) d
    ]) ≡ complete c → Passed size k r
    go (refused f) e h = clash cc
    go (done true d) e h = record { book = b; last = true; then = d; loaded = e; rest = over (none_left o (o + size_of k) _ d c h) }
    go (done false d) e h = record { book = b; last = false; then = d; loaded = e; rest = going left (o + size_of k) d c h }

all_read : (size : ℕ) {deck r : List ℕ} → Reading size deck → Begins deck r → Reading size r
all_read size w first = w
all_read size w (next {k} {r} b) = (passed size k r (all_read size w b)).rest

-- a record that calls process n was loaded: so n is listed
module _ (name : Name) (link : Field) (n : ℕ) where
  abbrev call : Record
  call = routine name 0 0 (Regional letter_j n) link

  one-lists : (size k : ℕ) (r : List ℕ) → record_at r ≡ some call → Safe Any (λ _. is_listed n ≡ true) (λ _ _. Unit {0}) (load_one size k r)
  unfolding load_one well_formed load_record load_routine
  one-lists size k r e =
      seq (asks-known {P = Unit {0}} tt) λ _ _. seq (asks-known {P = Unit {0}} tt) λ _ _.
      bind {P = λ x. x ≡ call} {J = λ _ _. Unit {0}} (rw e (safe-ret call refl (λ _ _. tt {0}))) λ x p.
      rw p (seq {P = λ _. is_listed n ≡ true} {J = λ _ _. Unit {0}} (seq (asks-known {P = Unit {0}} tt) λ _ _. weaken (λ _ h. not-false (is_listed n) h) (λ _ _ _ _. tt {0}) (safe-refuse_if _ _))
      λ _ h. safe-ret _ h (λ _ _. tt {0}))

  is-listed : (size : ℕ) (r : List ℕ) → record_at r ≡ some call → Reading size r → is_listed n ≡ true
  unfolding record_at choose
  is-listed size [] e w = clash cc
  is-listed size (k ∷ r) e w =
      let p = passed size k r w in
      (subst (λ (q : Res Book Fault Bool). After q (λ _ _. Unit {0} × (is_listed n ≡ true))) p.loaded ((one-lists size k (k ∷ r) e).at p.book tt)).1

  pub loaded-lists : (deck : List ℕ) (before : List Cell) → (load deck before).answer ≡ Loaded → {r : List ℕ} → Begins deck r → record_at r ≡ some call → is_listed n ≡ true
  unfolding load
  loaded-lists deck before h {r} b e = go (size_fits (length before)) h
    where
      ended : (x : Ended) → records (length before) (suc (length deck)) 0 deck (fresh_book (length before) []) ≡ x → (ending (length before) x).answer ≡ Loaded
          → is_listed n ≡ true
      ended (complete c) p q = is-listed (length before) r e (all_read (length before) (going (suc (length deck)) 0 (fresh_book (length before) []) c p) b)
      ended (broken f o) p q = clash cc

      go : (t : Bool) → (elim t as (λ _. LoadOutcome) [
        | true ↦ ending (length before) (records (length before) (suc (length deck)) 0 deck (fresh_book (length before) []))
        | false ↦ record { answer = BadSize; cells = before; regions = [] }
      ]).answer ≡ Loaded → is_listed n ≡ true
      go true q = ended (records (length before) (suc (length deck)) 0 deck (fresh_book (length before) [])) refl q
      go false q = clash cc

-- 28: a process is refused by it, whatever the state, just where it is not listed
pub exactly-28 : (n : ℕ) (s : State) → (is_listed n ≡ false → perform n s ≡ refused (NotListed (J n))) ×
    ((c : ℕ) → perform n s ≡ refused (NotListed c) → is_listed n ≡ false)
exactly-28 n s = (unlisted n s, λ c e. (only-unlisted n c s e).0)

-- a cycle, and a run, is refused by 28 only with a process that is not listed
pub cycle-28 : (s : State) → Runnable s → (c : ℕ) → cycle s ≡ refused (NotListed c) → Unlisted c
cycle-28 s r c e = (rw e at (cycle-line s r)).at-28 c refl

pub run-28 : (budget : ℕ) (s : State) (c : ℕ) → (run budget s).answer ≡ Refused (NotListed c) → Unlisted c
run-28 budget s c =
    by-cycles (λ o. o.answer ≡ Refused (NotListed c) → Unlisted c) budget s
    (λ r _ h. refused_as (λ _ _. Unit {0}) (λ e. e ≡ NotListed c → Unlisted c) (λ _ _ _ _ _. tt) (λ _ _ e m _. m.at-28 c) budget 0 s r tt _ h refl)
    λ a u e. absurd (subst Unrun e u)
