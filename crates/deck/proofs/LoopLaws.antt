-- The record loop: what holds at its head, each way out of it, and one turn.
use Rattle.paper.proofs.Kit.{ℕ, suc, ◌+◌, ◌-◌, ◌<◌, ◌≤◌, Bool, true, false, cond, List, [], some, ◌≡◌, refl, ap, sym, ◌∙◌}
use Rattle.paper.proofs.Kit.{subst, arith, length, take, drop, set, length-drop, take_all}
use Rattle.std.specs.Prelude.{Result, Ok, Err, Option as CodeOption, Some, None, IfOk}
use Rattle.paper.specs.declared.Fault.{Fault}
use Rattle.paper.specs.declared.Fault.TheVariants.{BadField, NotEnded, Hopeless}
use Rattle.paper.specs.declared.Field.{Field}
use Rattle.paper.specs.declared.Field.TheVariants.{Regional}
use Rattle.paper.specs.Step.{Res, done, refused}
use Rattle.paper.specs.Cell.{Region as PaperRegion}
use Rattle.paper.specs.Record.{byte_at, size_of, field_at, record_at}
use Rattle.paper.specs.Deck.{Book, complete, broken, ending, can_start, closing, records, fresh_book, load_one}
use Rattle.paper.proofs.RecordLaws.{OptionOk, is_some, record-ok}
use Rattle.cells.specs.Pack.{AllFormed}
use Rattle.regions.specs.declared.Regions.{Regions}
use Rattle.regions.specs.Table.{regions_of, no_regions}
use Rattle.regions.proofs.TableLaws.{none-held}
use Rattle.records.specs.declared.Record.{Record}
use Rattle.records.specs.declared.Record.TheVariants.{Region, Routine, Datum, Number, Start}
use Rattle.records.specs.Symbols.{option_of, record_of, symbols_at, place_of, Written}
use Rattle.records.proofs.Laws.{bad-symbol, has-symbol}
use Rattle.book.specs.declared.locals.Local.{Local}
use Rattle.book.specs.declared.Notes.{Notes}
use Rattle.book.specs.Kept.{held, book_of}
use Rattle.deck.specs.declared.Placed.{Placed}
use Rattle.deck.specs.Load.{outcome_of, table_of, Made, PlacesIn, Lettered, Ends}
use Rattle.deck.proofs.FreshLaws.{set_below}
use Rattle.deck.proofs.TableLaws.{made_none}
use Rattle.deck.proofs.ReadLaws.{Reached, at-start, ran_out, broke, last_one, next_one, closed, not-closed, whole, was-whole, not_written, is-done}
use Rattle.deck.proofs.ReadLaws.{is-refused}

-- at the head of the loop, of n cells
pub record Stands (deck : List ℕ) (n : ℕ) (l : List Local) (s : List ℕ) (m : List Bool) (r : Regions) (k : Notes) (at : ℕ) : Type 0 where
  pub made : Made r
  pub cells : length s ≡ n
  pub marks : length m ≡ n
  pub formed : AllFormed s
  pub within : at ≤ length deck
  pub reached : Reached n deck at (book_of (held (regions_of r) k l s m))

pub stands-first : (deck : List ℕ) (n : ℕ) {l : List Local} {s : List ℕ} {m : List Bool} {r : Regions} {k : Notes} → r ≡ no_regions → length s ≡ n
    → length m ≡ length s → book_of (held (regions_of r) k l s m) ≡ fresh_book n (regions_of r) → AllFormed s
    → Stands deck (length s) l s m r k 0
stands-first deck n {l} {s} {m} {r} {k} e ls lm b f =
    record {
      made = subst Made (sym e) made_none;
      cells = refl;
      marks = lm;
      formed = f;
      within = omega arith;
      reached = at-start (length s) deck _ (b ∙ (λ i. fresh_book (sym ls i) (empty i)));
    }
  where
    empty : regions_of r ≡ []
    empty = ap regions_of e ∙ none-held

-- what the records come to is what the code answers, with the numbers left
abbrev pub Comes : List ℕ → ℕ → Result Regions (Fault × ℕ) → List ℕ → Type 0
Comes deck n q s = ending n (records n (suc (length deck)) 0 deck (fresh_book n [])) ≡ outcome_of n q s

pub ends : (deck s₀ : List ℕ) {s : List ℕ} {n : ℕ} {q : Result Regions (Fault × ℕ)} → n ≡ length s₀ → Comes deck n q s → AllFormed s
    → IfOk q (λ t. t ≡ table_of (regions_of t)) → Ends deck s₀ s q
ends deck s₀ {s} {q = q} e c f t =
    record { is = subst (λ (x : ℕ). Comes deck x q s) e c; formed = f; made = t }

-- whether a run can begin, by the cells and the names
abbrev pub Begins : List ℕ → List Bool → Bool → Type 0
Begins s m b = (rs : List PaperRegion) (k : Notes) (l : List Local) → b ≡ can_start (book_of (held rs k l s m))

-- the part of a deck from an offset on, as the code has it
abbrev pub part_at : List ℕ → ℕ → List ℕ
part_at deck at = take (length deck - at) (drop at deck)

pub to_end : (deck : List ℕ) (at : ℕ) → part_at deck at ≡ drop at deck
to_end deck at = take_all (length deck - at) (drop at deck) (omega (arith, length-drop at deck))

-- the symbols of a record so far, and all of them
pub written-more : (kind : ℕ) (r : List ℕ) (fs : List Field) (i : ℕ) (f : Field) (o : CodeOption Field) → i < length fs → Written kind r fs i
    → option_of o ≡ field_at r (place_of kind i) → o ≡ Some f → Written kind r (set fs i f) (i + 1)
written-more kind r fs i f o h w e p =
    record { are = set_below (λ (j : ℕ) (x : Field). field_at r (place_of kind j) ≡ some x) fs i f (Regional 0 0) h w.are (sym e ∙ ap option_of p) }

pub written_all : (kind : ℕ) (r : List ℕ) (fs : List Field) (i : ℕ) → symbols_at r ≤ i → Written kind r fs i → Written kind r fs (symbols_at r)
written_all kind r fs i h w = record { are = λ j g. w.are j (omega arith) }

-- a record that was parsed has a letter where it has a region
pub lettered : (x : Record) (r : List ℕ) → some (record_of x) ≡ record_at r → Lettered x
lettered x r e = go x (subst OptionOk (sym e) (record-ok r))
  where
    go : (x : Record) → OptionOk (some (record_of x)) → Lettered x
    go (Region b n) (is_some h) = h.0
    go (Routine name p q symb link) h = tt
    go (Datum name symb link) h = tt
    go (Number name v) h = tt
    go (Start b n) h = tt

module _ {deck : List ℕ} {n : ℕ} {l : List Local} {s : List ℕ} {m : List Bool} {r : Regions} {k : Notes} {at : ℕ} (w : Stands deck n l s m r k at) where
  abbrev here : Book
  here = book_of (held (regions_of r) k l s m)

  -- no record is left
  pub none-at-hand : at ≡ length deck → Comes deck n (Err (NotEnded, at)) s
  none-at-hand e = ap (ending n) (ran_out n deck w.reached (omega (arith, e)))

  -- a record is at hand: rec, the part of the deck from here on
  module _ (h : at < length deck) (rec : List ℕ) (part : rec ≡ drop at deck) where
    in-deck : (q : Res Book Fault Bool) → load_one n (byte_at rec 0) rec here ≡ q → load_one n (byte_at (drop at deck) 0) (drop at deck) here ≡ q
    in-deck q p = subst (λ (y : List ℕ). load_one n (byte_at y 0) y here ≡ q) part p

    fails : (f : Fault) (t : List ℕ) → load_one n (byte_at rec 0) rec here ≡ refused f → Comes deck n (Err (f, at)) t
    fails f t p = ap (ending n) (broke n deck w.reached h (in-deck (refused f) p))

    pub bad-field : (i : ℕ) (x : CodeOption Field) → i < symbols_at rec → option_of x ≡ field_at rec (place_of (byte_at rec 0) i) → x ≡ None
        → Comes deck n (Err (BadField, at)) s
    bad-field i x g e p =
        let v = has-symbol rec i g in
        fails BadField s (whole n (byte_at rec 0) rec here v.0 v.1
        ∙ not_written n (record_at rec) here (bad-symbol rec (byte_at rec 0) i refl v.2 (sym e ∙ ap option_of p)))

    -- the record was placed or refused
    module _ {l' : List Local} {s' : List ℕ} {m' : List Bool} {q : Result Placed Fault}
        (d : PlacesIn (load_one (length s) (byte_at rec 0) rec) r k l s m l' s' m' q) where
      did : (j : Result Placed Fault) → q ≡ j → PlacesIn (load_one n (byte_at rec 0) rec) r k l s m l' s' m' j
      did j p =
          subst (λ (x : ℕ × Result Placed Fault). PlacesIn (load_one x.0 (byte_at rec 0) rec) r k l s m l' s' m' x.1) (λ i. (w.cells i, p i)) d

      pub still_formed : AllFormed s'
      still_formed = d.did.kept w.formed

      pub refuses : {f : Fault} → q ≡ Err f → Comes deck n (Err (f, at)) s'
      refuses {f} p = fails f s' (is-refused (did (Err f) p).did)

      -- placed: reading goes on past it
      module _ {t : Placed} (fine : q ≡ Ok t) (size : ℕ) (e : size ≡ size_of (byte_at rec 0)) where
        abbrev there : Book
        there = book_of (held (regions_of t.regions) t.notes l' s' m')

        was : (size_of (byte_at rec 0) ≡ 0 → ⊥) × (size_of (byte_at rec 0) ≤ length rec)
        was = was-whole n (byte_at rec 0) rec here (is-done (did (Ok t) fine).did)

        pub reads_on : at + size ≤ length deck
        reads_on = omega (arith, was.1, ap length part, length-drop at deck, e)

        loaded : (x : Bool) → t.last ≡ x → load_one n (byte_at (drop at deck) 0) (drop at deck) here ≡ done x there
        loaded x p = in-deck (done x there) (is-done (did (Ok t) fine).did ∙ ap (λ (y : Bool). done y there) p)

        size_is : size ≡ size_of (byte_at (drop at deck) 0)
        size_is = e ∙ ap (λ (y : List ℕ). size_of (byte_at y 0)) part

        some_read : size ≡ 0 → ⊥
        some_read z = was.0 (sym e ∙ z)

        pub further : at < at + size
        further = omega (arith, some_read)

        pub table_made : t.regions ≡ table_of (regions_of t.regions)
        table_made = (did (Ok t) fine).made.made

        pub goes-round : t.last ≡ false → length s' ≡ length s → length m' ≡ length m → Stands deck n l' s' m' t.regions t.notes (at + size)
        goes-round p ls lm =
            record {
              made = (did (Ok t) fine).made;
              cells = ls ∙ w.cells;
              marks = lm ∙ w.marks;
              formed = still_formed;
              within = reads_on;
              reached = subst (λ (x : ℕ). Reached n deck (at + x) there) (sym size_is)
                  (next_one n deck w.reached h (loaded false p) (λ y. some_read (size_is ∙ y)));
            }

        -- it was the start
        module _ (p : t.last ≡ true) where
          over : ending n (records n (suc (length deck)) 0 deck (fresh_book n [])) ≡ ending n (closing at (at + size) (drop (at + size) deck) there)
          over = ap (ending n) (last_one n deck w.reached h (loaded true p) ∙ ap (λ (x : ℕ). closing at (at + x) (drop (at + x) deck) there) (sym size_is))

          pub not-ended : at + size < length deck → Comes deck n (Err (NotEnded, at + size)) s'
          not-ended g = over ∙ ap (ending n) (not-closed n deck at (at + size) there g)

          ended : (b : Bool) → length deck ≤ at + size → Begins s' m' b
              → ending n (records n (suc (length deck)) 0 deck (fresh_book n [])) ≡ ending n (cond b (complete there) (broken Hopeless at))
          ended b g f =
              over
              ∙ ap (ending n) (closed n deck at (at + size) there g ∙ ap (λ (x : Bool). cond x (complete there) (broken Hopeless at)) (sym (f _ t.notes l')))

          pub hopeless : length deck ≤ at + size → Begins s' m' false → Comes deck n (Err (Hopeless, at)) s'
          hopeless g f = ended false g f

          pub completes : length deck ≤ at + size → Begins s' m' true → Comes deck n (Ok t.regions) s'
          completes g f = ended true g f
