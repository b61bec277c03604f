-- Laws of records: a record by its kind and its symbols, and how many symbols one has.
use Rattle.paper.proofs.Kit.{◌||◌, ℕ, zero, suc, ◌<◌, ◌≤◌, Bool, true, false, cond, ◌&&◌, List, [], ◌∷◌, ◌⊎◌, Option, none, inl, inr}
use Rattle.paper.proofs.Kit.{some, ◌≡◌, refl, ap, ◌∙◌, sym, subst, arith, ℕ_discrete, le-ltb, ne_eqb, ltb-false, eqb-false, eqb, ltb}
use Rattle.paper.proofs.Kit.{leb, length}
use Rattle.paper.specs.Step.{choose}
use Rattle.paper.specs.declared.Field.{Field}
use Rattle.paper.specs.Limits.{largest_number, largest_p}
use Rattle.paper.specs.Region.{is_letter}
use Rattle.paper.specs.Record.{Name, region, routine, datum, number, guard, byte_at, name_at, record_at, region_at, routine_at, datum_at, number_at, as_integer, as_floating}
use Rattle.paper.specs.Term.{Term}
use Rattle.paper.specs.Record.{start_at, start_with, given, name_as, may_symb, may_link_data, pair_at, long_at, field_at, size_of}
use Rattle.records.specs.Symbols.{Written, symbols_in, symbols_at, place_of, symbol_at}

-- a decision, one test after another
module _ {A : Type 0} where
  choose-cond : (t : Bool) (x : A) (cs : List (Bool × A)) (d : A) → choose ((t, x) ∷ cs) d ≡ cond t x (choose cs d)
  unfolding choose
  choose-cond true x cs d = refl
  choose-cond false x cs d = refl

  choose-none : (d : A) → choose [] d ≡ d
  unfolding choose
  choose-none d = refl

-- a record by its kind
module _ (r : List ℕ) where
  kind_2 : byte_at r 0 ≡ 2 → record_at r ≡ routine_at r
  unfolding record_at
  kind_2 k = simp (choose-cond, k)

  kind_3 : byte_at r 0 ≡ 3 → record_at r ≡ datum_at r
  unfolding record_at
  kind_3 k = simp (choose-cond, k)

  kind-4 : byte_at r 0 ≡ 4 → record_at r ≡ number_at as_integer r
  unfolding record_at
  kind-4 k = simp (choose-cond, k)

  kind-5 : byte_at r 0 ≡ 5 → record_at r ≡ start_at r
  unfolding record_at
  kind-5 k = simp (choose-cond, k)

  kind-6 : byte_at r 0 ≡ 6 → record_at r ≡ number_at as_floating r
  unfolding record_at
  kind-6 k = simp (choose-cond, k)

  pub kind-none : (kind : ℕ) → kind ≡ byte_at r 0 → (kind ≡ 1 → ⊥) → (kind ≡ 2 → ⊥) → (kind ≡ 3 → ⊥) → (kind ≡ 4 → ⊥) → (kind ≡ 5 → ⊥) → (kind ≡ 6 → ⊥)
      → record_at r ≡ none
  unfolding record_at
  kind-none kind k a b c d e f =
      simp (choose-cond, choose-none, ← k, ne_eqb kind 1 a, ne_eqb kind 2 b, ne_eqb kind 3 c, ne_eqb kind 4 d, ne_eqb kind 5 e, ne_eqb kind 6 f)

-- a value that may be missing, and the rest
module _ {A B : Type 0} (o : Option A) (f : A → Option B) where
  none_first : o ≡ none → given o f ≡ none
  unfolding given
  none_first e = rw e

  none_after : ((x : A) → f x ≡ none) → given o f ≡ none
  unfolding given
  none_after h = go o
    where
      go : (o : Option A) → given o f ≡ none
      go none = refl
      go (some x) = h x

-- from its symbols
module _ (r : List ℕ) (fs : List Field) (kind : ℕ) (k : kind ≡ byte_at r 0) (w : Written kind r fs (symbols_in kind)) where
  written : (n : ℕ) → kind ≡ n → Written n r fs (symbols_in n)
  written n e = subst (λ (x : ℕ). Written x r fs (symbols_in x)) e w

  pub record-1 : kind ≡ 1
      → record_at r ≡ guard (is_letter (byte_at r 1) && leb 1 (pair_at r 2) && leb (pair_at r 2) largest_number) (some (region (byte_at r 1) (pair_at r 2)))
  unfolding record_at region_at
  record-1 e = simp (choose-cond, sym k ∙ e)

  -- by its name, where it may have one
  module _ (name : Name) (n : some name ≡ name_as (symbol_at fs 0)) where
    pub record-2 : kind ≡ 2
        → record_at r ≡ guard (may_symb (symbol_at fs 1) && leb (byte_at r 4) largest_p && leb (byte_at r 5) 2)
        (some (routine name (byte_at r 4) (byte_at r 5) (symbol_at fs 1) (symbol_at fs 2)))
    unfolding routine_at name_at given
    record-2 e =
        let v = written 2 e in kind_2 r (sym k ∙ e) ∙ simp (v.are 0 (omega arith), v.are 1 (omega arith), v.are 2 (omega arith), ← n)

    pub record-3 : kind ≡ 3 → record_at r ≡ guard (may_link_data (symbol_at fs 2)) (some (datum name (symbol_at fs 1) (symbol_at fs 2)))
    unfolding datum_at name_at given
    record-3 e = let v = written 3 e in kind_3 r (sym k ∙ e) ∙ simp (v.are 0 (omega arith), v.are 1 (omega arith), v.are 2 (omega arith), ← n)

    -- a data term, of the sort that its kind says
    record-term : (m : ℕ) (sort : ℕ → Option Term) → symbols_in m ≡ 1 → kind ≡ m → record_at r ≡ number_at sort r
        → record_at r ≡ given (sort (long_at r 4)) (λ t. some (number name t))
    unfolding number_at name_at given
    record-term m sort one e q = q ∙ simp ((written m e).are 0 (omega (arith, one)), ← n)

    pub record-4 : (t : Term) → kind ≡ 4 → some t ≡ as_integer (long_at r 4) → record_at r ≡ some (number name t)
    unfolding given
    record-4 t e q = record-term 4 as_integer refl e (kind-4 r (sym k ∙ e)) ∙ ap (λ o. given o (λ x. some (number name x))) (sym q)

    pub record-6 : (t : Term) → kind ≡ 6 → some t ≡ as_floating (long_at r 4) → record_at r ≡ some (number name t)
    unfolding given
    record-6 t e q = record-term 6 as_floating refl e (kind-6 r (sym k ∙ e)) ∙ simp (← q)

    pub not-finite : kind ≡ 6 → none ≡ as_floating (long_at r 4) → record_at r ≡ none
    unfolding given
    not-finite e q = record-term 6 as_floating refl e (kind-6 r (sym k ∙ e)) ∙ simp (← q)

  pub unnamed : (kind ≡ 2) ⊎ ((kind ≡ 3) ⊎ ((kind ≡ 4) ⊎ (kind ≡ 6))) → none ≡ name_as (symbol_at fs 0) → record_at r ≡ none
  unfolding routine_at datum_at number_at name_at given
  unnamed (inl e) q = kind_2 r (sym k ∙ e) ∙ simp ((written 2 e).are 0 (omega arith), ← q)
  unnamed (inr (inl e)) q = kind_3 r (sym k ∙ e) ∙ simp ((written 3 e).are 0 (omega arith), ← q)
  unnamed (inr (inr (inl e))) q = kind-4 r (sym k ∙ e) ∙ simp ((written 4 e).are 0 (omega arith), ← q)
  unnamed (inr (inr (inr e))) q = kind-6 r (sym k ∙ e) ∙ simp ((written 6 e).are 0 (omega arith), ← q)

  pub record-5 : kind ≡ 5 → record_at r ≡ start_with (symbol_at fs 0)
  unfolding start_at given
  record-5 e = kind-5 r (sym k ∙ e) ∙ simp ((written 5 e).are 0 (omega arith))

-- what `parse` reads, kind by kind
pub ruleset kinds = (record-1, record-2, record-3, record-4, record-5, record-6, not-finite, unnamed, kind-none)

-- a symbol that is not well written spoils its record
module _ (r : List ℕ) where
  bad-name : field_at r 1 ≡ none → name_at r ≡ none
  unfolding name_at
  bad-name e = none_first _ _ e

  bad-routine : (i : ℕ) → i < 3 → field_at r (place_of 2 i) ≡ none → routine_at r ≡ none
  unfolding routine_at
  bad-routine zero h e = none_first _ _ (bad-name e)
  bad-routine (suc zero) h e = none_after _ _ λ x. none_first _ _ e
  bad-routine (suc (suc zero)) h e = none_after _ _ λ x. none_after _ _ λ y. none_first _ _ e
  bad-routine (suc (suc (suc i))) h e = absurd (omega arith)

  bad-datum : (i : ℕ) → i < 3 → field_at r (place_of 3 i) ≡ none → datum_at r ≡ none
  unfolding datum_at
  bad-datum zero h e = none_first _ _ (bad-name e)
  bad-datum (suc zero) h e = none_after _ _ λ x. none_first _ _ e
  bad-datum (suc (suc zero)) h e = none_after _ _ λ x. none_after _ _ λ y. none_first _ _ e
  bad-datum (suc (suc (suc i))) h e = absurd (omega arith)

  bad-only : (kind i : ℕ) → i < 1 → field_at r (place_of kind i) ≡ none → field_at r 1 ≡ none
  bad-only kind zero h e = e
  bad-only kind (suc i) h e = absurd (omega arith)

  pub bad-symbol : (kind i : ℕ) → kind ≡ byte_at r 0 → i < symbols_in kind → field_at r (place_of kind i) ≡ none → record_at r ≡ none
  unfolding number_at start_at
  bad-symbol kind i k h e =
      go (ℕ_discrete kind 1) (ℕ_discrete kind 2) (ℕ_discrete kind 3) (ℕ_discrete kind 4) (ℕ_discrete kind 5) (ℕ_discrete kind 6)
    where
      at : (n : ℕ) → kind ≡ n → i < symbols_in n
      at n p = subst (λ (x : ℕ). i < symbols_in x) p h

      there : (n : ℕ) → kind ≡ n → field_at r (place_of n i) ≡ none
      there n p = subst (λ (x : ℕ). field_at r (place_of x i) ≡ none) p e

      go : Dec (kind ≡ 1) → Dec (kind ≡ 2) → Dec (kind ≡ 3) → Dec (kind ≡ 4) → Dec (kind ≡ 5) → Dec (kind ≡ 6) → record_at r ≡ none
      go (yes p) _ _ _ _ _ = absurd (omega (arith, at 1 p))
      go (no a) (yes p) _ _ _ _ = kind_2 r (sym k ∙ p) ∙ bad-routine i (at 2 p) (there 2 p)
      go (no a) (no b) (yes p) _ _ _ = kind_3 r (sym k ∙ p) ∙ bad-datum i (at 3 p) (there 3 p)
      go (no a) (no b) (no c) (yes p) _ _ = kind-4 r (sym k ∙ p) ∙ none_first _ _ (bad-name (bad-only 4 i (at 4 p) (there 4 p)))
      go (no a) (no b) (no c) (no d) (yes p) _ = kind-5 r (sym k ∙ p) ∙ none_first _ _ (bad-only 5 i (at 5 p) (there 5 p))
      go (no a) (no b) (no c) (no d) (no f) (yes p) = kind-6 r (sym k ∙ p) ∙ none_first _ _ (bad-name (bad-only 6 i (at 6 p) (there 6 p)))
      go (no a) (no b) (no c) (no d) (no f) (no g) = kind-none r kind k a b c d f g

-- the symbols of a record that is whole, and of any
pub all-symbols : (r : List ℕ) (kind : ℕ) → kind ≡ byte_at r 0 → (size_of kind ≡ 0 → ⊥) → size_of kind ≤ length r → symbols_at r ≡ symbols_in kind
all-symbols r kind k z h = simp (← k, ne_eqb (size_of kind) 0 z, le-ltb (length r) (size_of kind) h)

module _ (r : List ℕ) where
  pub has-symbol : (i : ℕ) → i < symbols_at r → (size_of (byte_at r 0) ≡ 0 → ⊥) × (size_of (byte_at r 0) ≤ length r) × (i < symbols_in (byte_at r 0))
  has-symbol i h = go (eqb (size_of (byte_at r 0)) 0) (ltb (length r) (size_of (byte_at r 0))) refl refl h
    where
      go : (a b : Bool) → eqb (size_of (byte_at r 0)) 0 ≡ a → ltb (length r) (size_of (byte_at r 0)) ≡ b → i < cond (a || b) 0 (symbols_in (byte_at r 0))
          → (size_of (byte_at r 0) ≡ 0 → ⊥) × (size_of (byte_at r 0) ≤ length r) × (i < symbols_in (byte_at r 0))
      go true b e f h = absurd (omega arith)
      go false true e f h = absurd (omega arith)
      go false false e f h = (eqb-false _ _ e, ltb-false _ _ f, h)

  pub few-symbols : symbols_at r ≤ 3
  few-symbols = go (eqb (size_of (byte_at r 0)) 0 || ltb (length r) (size_of (byte_at r 0))) (eqb (byte_at r 0) 1) (eqb (byte_at r 0) 2) (eqb (byte_at r 0) 3)
    where
      go : (n a b c : Bool) → cond n 0 (cond a 0 (cond b 3 (cond c 3 1))) ≤ 3
      go true a b c = omega arith
      go false true b c = omega arith
      go false false true c = omega arith
      go false false false true = omega arith
      go false false false false = omega arith
