-- Reading a deck record by record: what one record comes to, and where the loop stands.
use Rattle.paper.proofs.Kit.{clash, ℕ, zero, suc, ◌+◌, ◌<◌, ◌≤◌, Bool, true, false, cond, List, [], ◌∷◌, Option, none, some, ◌≡◌, refl, ap, sym, ◌∙◌, arith}
use Rattle.paper.proofs.Kit.{eq-eqb, ne_eqb, lt-ltb, le-ltb, ltb-true, ltb-false, ltb, length, drop, length-drop, drop_of_length-le, drop-drop}
use Rattle.std.specs.Prelude.{Result, Ok, Err}
use Rattle.paper.specs.declared.Fault.{Fault}
use Rattle.paper.specs.declared.Fault.TheVariants.{PastEnd, UnknownKind, BadField, NotEnded, Hopeless}
use Rattle.paper.specs.Step.{Res, done, refused, ◌>>=◌, ◌>>◌, refuse, refuse_if}
use Rattle.paper.specs.Record.{Record, byte_at, size_of, record_at}
use Rattle.paper.specs.Deck.{Book, Load, Ended, complete, broken, on_res, can_start, closing, records, fresh_book, load_one, well_formed}
use Rattle.steps.proofs.Sequence.{alike-here, bind, give}
use Rattle.regions.specs.declared.Regions.{Regions}
use Rattle.regions.specs.Table.{regions_of}
use Rattle.book.specs.declared.locals.Local.{Local}
use Rattle.book.specs.declared.Notes.{Notes}
use Rattle.book.specs.Kept.{Held, held, book_of}
use Rattle.book.specs.Booked.{Booked}
use Rattle.deck.specs.declared.Placed.{Placed}
use Rattle.deck.specs.Load.{one_record, one_parsed, Made, PlacesIn}

-- what was done, by its answer
module _ {A : Type 0} {M : Load A} {h h' : Held} where
  pub is-done : {v : A} → Booked M h h' (Ok v) → M (book_of h) ≡ done v (book_of h')
  is-done d = d.is tt tt

  pub is-refused : {f : Fault} → Booked M h h' (Err f) → M (book_of h) ≡ refused f
  is-refused d = d.is tt tt

-- a record that is refused
pub stops : {M : Load Bool} {t : Regions} {k : Notes} {l : List Local} {s : List ℕ} {m : List Bool} {f : Fault}
    → M (book_of (held (regions_of t) k l s m)) ≡ refused f → Made t → PlacesIn M t k l s m l s m (Err f)
stops e h = record { did = record { is = λ _ _. e; kept = λ f. f }; made = h }

-- one record: 3, 2, and the rest
passes : {A : Type 0} (f : Fault) (M : Load A) (b : Book) (t : Bool) → t ≡ false → (refuse_if t f >> M) b ≡ M b
unfolding ◌>>◌ refuse_if
passes f M b t e = rw e

halts : {A : Type 0} (f : Fault) (M : Load A) (b : Book) (t : Bool) → t ≡ true → (refuse_if t f >> M) b ≡ refused f
unfolding ◌>>◌ refuse_if
halts f M b t e = rw e

module _ (size kind : ℕ) (r : List ℕ) (b : Book) where
  pub unknown : size_of kind ≡ 0 → load_one size kind r b ≡ refused UnknownKind
  unfolding load_one
  unknown e = halts _ _ b _ (eq-eqb (size_of kind) 0 e)

  pub cut_off : (size_of kind ≡ 0 → ⊥) → length r < size_of kind → load_one size kind r b ≡ refused PastEnd
  unfolding load_one
  cut_off n h = passes _ _ b _ (ne_eqb (size_of kind) 0 n) ∙ halts _ _ b _ (lt-ltb (length r) (size_of kind) h)

  pub whole : (size_of kind ≡ 0 → ⊥) → size_of kind ≤ length r → load_one size kind r b ≡ one_parsed size (record_at r) b
  unfolding load_one one_parsed one_record
  whole n h = passes _ _ b _ (ne_eqb (size_of kind) 0 n) ∙ passes _ _ b _ (le-ltb (length r) (size_of kind) h)

  pub was-whole : {l : Bool} {c : Book} → load_one size kind r b ≡ done l c → (size_of kind ≡ 0 → ⊥) × (size_of kind ≤ length r)
  was-whole {l} {c} e = (none, go (ltb (length r) (size_of kind)) refl)
    where
      none : size_of kind ≡ 0 → ⊥
      none z = let y = unknown z in clash cc

      go : (t : Bool) → ltb (length r) (size_of kind) ≡ t → size_of kind ≤ length r
      go true f = let y = cut_off none (ltb-true _ _ f) in clash cc
      go false f = ltb-false _ _ f

-- what is whole and well written comes to what its record comes to
pub placed-whole : (size kind : ℕ) (r : List ℕ) (y : Record) {t : Regions} {k : Notes} {l l' : List Local} {s s' : List ℕ} {m m' : List Bool}
    {x : Result Placed Fault} → (size_of kind ≡ 0 → ⊥) → size_of kind ≤ length r → record_at r ≡ some y
    → PlacesIn (one_record size y) t k l s m l' s' m' x → PlacesIn (load_one size kind r) t k l s m l' s' m' x
unfolding one_parsed well_formed
placed-whole size kind r y {t} {k} {l} {l'} {s} {s'} {m} n h e d =
    let b = book_of (held (regions_of t) k l s m) in
    record {
      did = alike-here (λ _ _. whole size kind r b n h ∙ ap (λ o. one_parsed size o b) e) (bind (one_record size) give d.did);
      made = d.made;
    }

pub not_written : (size : ℕ) (o : Option _) (b : Book) → o ≡ none → one_parsed size o b ≡ refused BadField
unfolding one_parsed well_formed ◌>>=◌ refuse
not_written size o b e = rw e

-- the loop has come to offset `at` with the book b
pub record Reached (size : ℕ) (deck : List ℕ) (at : ℕ) (b : Book) : Type 0 where
  pub fuel : ℕ
  pub enough : length deck < at + fuel
  pub is : records size (suc (length deck)) 0 deck (fresh_book size []) ≡ records size fuel at (drop at deck) b

module _ (size : ℕ) (deck : List ℕ) where
  abbrev outcome : Ended
  outcome = records size (suc (length deck)) 0 deck (fresh_book size [])

  pub at-start : (b : Book) → b ≡ fresh_book size [] → Reached size deck 0 b
  at-start b e = record { fuel = suc (length deck); enough = omega arith; is = ap (records size (suc (length deck)) 0 deck) (sym e) }

  none_left : (fuel at : ℕ) (b : Book) → records size fuel at [] b ≡ broken NotEnded at
  unfolding records
  none_left zero at b = refl
  none_left (suc k) at b = refl

  pub ran_out : {at : ℕ} {b : Book} → Reached size deck at b → length deck ≤ at → outcome ≡ broken NotEnded at
  ran_out {at} {b} w h = w.is ∙ ap (λ (r : List ℕ). records size w.fuel at r b) (drop_of_length-le deck h) ∙ none_left w.fuel at b

  -- a record is at hand
  abbrev goes : ℕ → ℕ → List ℕ → Res Book Fault Bool → Ended
  goes left at r q = on_res q (λ f. broken f at) (λ last c. elim last [
    | true ↦ closing at (at + size_of (byte_at r 0)) (drop (size_of (byte_at r 0)) r) c
    | false ↦ records size left (at + size_of (byte_at r 0)) (drop (size_of (byte_at r 0)) r) c
  ])

  one-turn : (left at : ℕ) (r : List ℕ) (b : Book) → 0 < length r → records size (suc left) at r b ≡ goes left at r (load_one size (byte_at r 0) r b)
  unfolding records
  one-turn left at [] b h = absurd (omega arith)
  one-turn left at (k ∷ r) b h = refl

  less : (fuel : ℕ) → 0 < fuel → (l : ℕ) × (fuel ≡ suc l)
  less zero h = absurd (omega arith)
  less (suc l) h = (l, refl)

  module _ {at : ℕ} {b : Book} (w : Reached size deck at b) (h : at < length deck) where
    abbrev r : List ℕ
    r = drop at deck

    some_left : 0 < w.fuel
    some_left = omega (arith, w.enough)

    abbrev later : ℕ
    later = (less w.fuel some_left).0

    turned : outcome ≡ goes later at r (load_one size (byte_at r 0) r b)
    turned =
        w.is ∙ ap (λ (f : ℕ). records size f at r b) (less w.fuel some_left).1
        ∙ one-turn later at r b (rw (length-drop at deck) (omega arith))

    pub broke : {f : Fault} → load_one size (byte_at r 0) r b ≡ refused f → outcome ≡ broken f at
    unfolding on_res
    broke e = turned ∙ ap (goes later at r) e

    pub last_one : {c : Book} → load_one size (byte_at r 0) r b ≡ done true c
        → outcome ≡ closing at (at + size_of (byte_at r 0)) (drop (at + size_of (byte_at r 0)) deck) c
    unfolding on_res
    last_one {c} e =
        turned
        ∙ ap (goes later at r) e
        ∙ ap (λ (x : List ℕ). closing at (at + size_of (byte_at r 0)) x c) (drop-drop (size_of (byte_at r 0)) at deck)

    pub next_one : {c : Book} → load_one size (byte_at r 0) r b ≡ done false c → (size_of (byte_at r 0) ≡ 0 → ⊥)
        → Reached size deck (at + size_of (byte_at r 0)) c
    unfolding on_res
    next_one {c} e n =
        record {
          fuel = later;
          enough = omega (arith, w.enough, (less w.fuel some_left).1);
          is = turned
              ∙ ap (goes later at r) e
              ∙ ap (λ (x : List ℕ). records size later (at + size_of (byte_at r 0)) x c) (drop-drop (size_of (byte_at r 0)) at deck);
        }

  -- the start was read at o, and reading stopped at e
  module _ (o e : ℕ) (c : Book) where
    pub closed : length deck ≤ e → closing o e (drop e deck) c ≡ cond (can_start c) (complete c) (broken Hopeless o)
    unfolding closing
    closed h = rw (drop_of_length-le deck h)

    pub not-closed : e < length deck → closing o e (drop e deck) c ≡ broken NotEnded e
    unfolding closing
    not-closed h = go (drop e deck) (rw (length-drop e deck) (omega arith))
      where
        go : (r : List ℕ) → 0 < length r → closing o e r c ≡ broken NotEnded e
        go [] k = absurd (omega arith)
        go (y ∷ ys) k = refl
