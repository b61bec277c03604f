-- The outcome of a load in numbers.
use Rattle.paper.proofs.Kit.{clash, ℕ, zero, suc, ◌≤◌, Bool, true, false, cond, ◌&&◌, List, [], ◌∷◌, ◌≡◌, refl, ap, sym, ◌∙◌, subst}
use Rattle.paper.proofs.Kit.{leb-true, leb, length, take, replicate, length-replicate, length-take-le}
use Rattle.std.specs.Prelude.{Result, Ok, Err}
use Rattle.paper.specs.declared.Fault.{Fault}
use Rattle.paper.specs.declared.LoadAnswer.TheVariants.{Loaded as AnswerLoaded, BadSize, Broken}
use Rattle.paper.specs.Limits.{smallest_n, largest_n}
use Rattle.paper.specs.Cell.{word, zeros, size_fits}
use Rattle.paper.specs.Deck.{LoadOutcome, load, ending, records, fresh_book}
use Rattle.cells.specs.Pack.{packed}
use Rattle.cells.specs.Bridge.{unpacked}
use Rattle.cells.proofs.Store.{unpacked-length, packed-unpacked}
use Rattle.regions.specs.declared.Regions.{Regions}
use Rattle.regions.specs.Table.{regions_of, no_regions}
use Rattle.regions.proofs.TableLaws.{none-held}
use Rattle.deck.specs.declared.Loaded.{Loaded}
use Rattle.deck.specs.Load.{table_from, outcome_of, Ends, Loads}

-- the test of N
pub in-range : (n : ℕ) (b : Bool) → b ≡ size_fits n → b ≡ true → n ≤ largest_n
in-range n b e h = leb-true n largest_n (second (leb smallest_n n) (leb n largest_n) (sym e ∙ h))
  where
    second : (s t : Bool) → (s && t) ≡ true → t ≡ true
    second true t e = e
    second false t e = clash cc

-- the first n of k marks
pub marks-lent : (n k : ℕ) → n ≤ k → n ≡ length (take n (replicate k false))
marks-lent n k h = sym (length-take-le n (replicate k false) (rw (length-replicate k false) h))

-- the definition by the test of N
module _ (deck s : List ℕ) where
  abbrev chosen : ℕ → Bool → LoadOutcome
  chosen n b = elim b as (λ _. LoadOutcome) [
    | true ↦ ending n (records n (suc (length deck)) 0 deck (fresh_book n []))
    | false ↦ record { answer = BadSize; cells = unpacked s; regions = [] }
  ]

  by_size : load deck (unpacked s) ≡ chosen (length s) (size_fits (length s))
  unfolding load
  by_size = ap (λ (n : ℕ). chosen n (size_fits n)) (unpacked-length s)

  too_few : size_fits (length s) ≡ false → load deck (unpacked s) ≡ record { answer = BadSize; cells = unpacked s; regions = [] }
  too_few e = by_size ∙ ap (chosen (length s)) e

  enough : size_fits (length s) ≡ true
      → load deck (unpacked s) ≡ ending (length s) (records (length s) (suc (length deck)) 0 deck (fresh_book (length s) []))
  enough e = by_size ∙ ap (chosen (length s)) e

  -- an outcome in numbers
  loads-as : (o : LoadOutcome) (b : Bool) {s' : List ℕ} {r : Loaded} → load deck (unpacked s) ≡ o → size_fits (length s) ≡ b
      → r.answer ≡ o.answer → regions_of r.regions ≡ o.regions → r.regions ≡ table_from no_regions o.regions
      → s' ≡ cond b (packed o.cells) s
      → Loads deck s s' r
  loads-as o b e f a t u n =
      record {
        answer = a ∙ ap (λ x. x.answer) (sym e);
        regions = t ∙ ap (λ x. x.regions) (sym e);
        table = u ∙ ap (λ x. table_from no_regions x.regions) (sym e);
        numbers = n ∙ (λ i. cond (sym f i) (packed (sym e i).cells) s);
      }

all-zero : (n : ℕ) → replicate n 0 ≡ packed (replicate n (word zeros))
all-zero zero = refl
all-zero (suc n) = ap (λ (l : List ℕ). 0 ∷ l) (all-zero n)

module _ (deck s : List ℕ) (b : Bool) (size : b ≡ size_fits (length s)) where
  pub loads-none : {r : Regions} → b ≡ false → r ≡ no_regions → Loads deck s s (record { answer = BadSize; regions = r })
  unfolding table_from
  loads-none e q =
      loads-as deck s _ false (too_few deck s (sym size ∙ e)) (sym size ∙ e) refl (ap regions_of q ∙ none-held) q
      refl

  module _ (e : b ≡ true) {q : Result Regions (Fault × ℕ)} {t : List ℕ} (h : Ends deck s t q) where
    fits : size_fits (length s) ≡ true
    fits = sym size ∙ e

    comes : {p : Result Regions (Fault × ℕ)} → q ≡ p → load deck (unpacked s) ≡ outcome_of (length s) p t
    comes p = enough deck s fits ∙ h.is ∙ ap (λ x. outcome_of (length s) x t) p

    pub loads-fine : {r : Regions} → q ≡ Ok r → Loads deck s t (record { answer = AnswerLoaded; regions = r })
    loads-fine p = loads-as deck s _ true (comes p) fits refl refl (subst (Ends deck s t) p h).made (sym (packed-unpacked t h.formed))

    pub loads-refused : {f : Fault × ℕ} {s' : List ℕ} {r : Regions} → q ≡ Err f → length t ≡ length s → s' ≡ replicate (length t) 0 → r ≡ no_regions
        → Loads deck s s' (record { answer = Broken f.0 f.1; regions = r })
    unfolding table_from
    loads-refused p l z u =
        loads-as deck s _ true (comes p) fits refl (ap regions_of u ∙ none-held) u
        (z ∙ ap (λ (n : ℕ). replicate n 0) l ∙ all-zero (length s))
