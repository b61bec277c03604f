-- The table as a run lends it: the name of a cell, row by row, and that it tells the regions.
use Rattle.paper.proofs.Kit.{ℕ, zero, suc, ◌+◌, ◌-◌, ◌*◌, ◌/◌, ◌%◌, ◌<◌, ◌≤◌, Bool, true, false, List, [], ◌∷◌, Option, none, some, ◌≡◌, refl, ap, sym, ◌∙◌}
use Rattle.paper.proofs.Kit.{add-one, arith, lt-ltb, le-ltb, eq-eqb, ne_eqb, eqb-true, eqb-false, ltb-true, ltb-false, eqb, ltb, length, get_or, drop, set}
use Rattle.std.proofs.lemmas.Grind.{get_or_after_one}
use Rattle.paper.proofs.Kit.{take, get_or-take, replicate, length-set, get_or-set_same, get_or-set_other}
use Rattle.paper.specs.Limits.{first_deck}
use Rattle.paper.specs.Region.{Region, region_of, H, W, J, layout, end_of_regions, letters_from, letters_of}
use Rattle.regions.specs.declared.Regions.{Regions}
use Rattle.regions.specs.Table.{region_at, regions_of}
use Rattle.paper.proofs.SoundTest.{end-at-least}
use Rattle.regions.specs.Lent.{region_in, rows_at, rows_of, Tells, Told}
use Rattle.regions.proofs.TableLaws.{at_most, rest_more, rest-none}

-- regions that a table tells end at the first cell of a deck or past it
pub told-from : {t : List ℕ} → Told t → first_deck ≤ get_or t 0 0
told-from k = omega (arith, k.tells.top, end-at-least k.regions first_deck)

-- the rows from place i on
abbrev pub rows_left : List ℕ → ℕ → List Region
rows_left t i = rows_at t i (24 - i)

rows_more : (t : List ℕ) (i : ℕ) → i < 24 → rows_left t i ≡ region_in (get_or t i 0) ∷ rows_left t (i + 1)
unfolding rows_at
rows_more t i h = let e : 24 - i ≡ suc (24 - (i + 1)) = omega arith in rw (e, add-one)

rows_none : (t : List ℕ) (i : ℕ) → 24 ≤ i → rows_left t i ≡ []
unfolding rows_at
rows_none t i h = let e : 24 - i ≡ 0 = omega arith in rw e

-- a cell c that is not before `at`, from which on the regions are laid out
module _ (r : Region) (rs : List Region) (at c : ℕ) where
  name-here : c < at + r.count → some (r.letter, c - at) ≡ letters_from (r ∷ rs) at c
  unfolding letters_from
  name-here h = rw (letters_from, lt-ltb c (at + r.count) h)

  name-more : at + r.count ≤ c → letters_from rs (at + r.count) c ≡ letters_from (r ∷ rs) at c
  unfolding letters_from
  name-more h = rw (letters_from, le-ltb c (at + r.count) h)

module _ (t : List ℕ) (i at c : ℕ) (from : at ≤ c) where
  pub row_here : i < 24 → c - at < get_or t i 0 % 65536 → some (get_or t i 0 / 65536 % 256, c - at) ≡ letters_from (rows_left t i) at c
  row_here h g = rw (rows_more t i h) (name-here (region_in (get_or t i 0)) (rows_left t (i + 1)) at c (omega arith))

  pub row_more : i < 24 → get_or t i 0 % 65536 ≤ c - at → letters_from (rows_left t (i + 1)) (at + get_or t i 0 % 65536) c ≡ letters_from (rows_left t i) at c
  row_more h g = rw (rows_more t i h) (name-more (region_in (get_or t i 0)) (rows_left t (i + 1)) at c (omega arith))

  pub row-none : 24 ≤ i → none ≡ letters_from (rows_left t i) at c
  unfolding letters_from
  row-none h = rw (rows_none t i h)

-- the rows as the code has them in a row
pub row_of : (t : List ℕ) (i : ℕ) → i < 23 → get_or (take 23 (drop 1 t)) i 0 ≡ get_or t (i + 1) 0
row_of t i h = get_or-take 23 (drop 1 t) i 0 h ∙ get_or_after_one t i 0 ∙ ap (λ (j : ℕ). get_or t j 0) (omega arith)

-- by range: H, W and J are the first regions of the layout
module _ (rs : List Region) (c : ℕ) where
  pub name-0 : c ≡ 0 → none ≡ letters_of rs c
  unfolding letters_of
  name-0 h = rw (letters_of, eq-eqb c 0 h)

  named : (c ≡ 0 → ⊥) → letters_from (layout rs) 1 c ≡ letters_of rs c
  unfolding letters_of
  named h = rw (letters_of, ne_eqb c 0 h)

  pub name-H : (c ≡ 0 → ⊥) → c < W 0 → some (0x48, c - H 0) ≡ letters_of rs c
  name-H z h = name-here (region_of 0x48 10) _ 1 c h ∙ named z

  name-from-W : W 0 ≤ c → letters_from (region_of 0x57 10 ∷ region_of 0x4A 200 ∷ rs) (W 0) c ≡ letters_of rs c
  name-from-W g = name-more (region_of 0x48 10) (region_of 0x57 10 ∷ region_of 0x4A 200 ∷ rs) 1 c g ∙ named (λ e. omega arith)

  name-from-J : J 0 ≤ c → letters_from (region_of 0x4A 200 ∷ rs) (J 0) c ≡ letters_of rs c
  name-from-J g = name-more (region_of 0x57 10) (region_of 0x4A 200 ∷ rs) (W 0) c g ∙ name-from-W (omega arith)

  pub name-W : W 0 ≤ c → c < J 0 → some (0x57, c - W 0) ≡ letters_of rs c
  name-W g h = name-here (region_of 0x57 10) (region_of 0x4A 200 ∷ rs) (W 0) c h ∙ name-from-W g

  pub name-J : J 0 ≤ c → c < first_deck → some (0x4A, c - J 0) ≡ letters_of rs c
  name-J g h = name-here (region_of 0x4A 200) rs (J 0) c h ∙ name-from-J g

  pub name-deck : first_deck ≤ c → letters_from rs first_deck c ≡ letters_of rs c
  name-deck g = name-more (region_of 0x4A 200) rs (J 0) c g ∙ name-from-J (omega arith)

-- the first i rows are the table's regions, and those after them 0
pub record Rows (r : Regions) (i : ℕ) (t : List ℕ) : Type 0 where
  pub sized : length t ≡ 24
  pub rows : (j : ℕ) → j < i → region_in (get_or t (j + 1) 0) ≡ region_at r j
  pub zeros : (j : ℕ) → i < j → get_or t j 0 ≡ 0

zeros-at : (n j : ℕ) → ◌≡◌ {A = ℕ} (get_or (replicate n 0) j 0) 0
zeros-at zero j = refl
zeros-at (suc n) zero = refl
zeros-at (suc n) (suc j) = zeros-at n j

pub no_rows : (r : Regions) → Rows r 0 (replicate 24 0)
no_rows r = record { sized = refl; rows = λ j h. absurd (omega arith); zeros = λ j h. zeros-at 24 j }

pub row_is : (b k x : ℕ) → b < 256 → k < 65536 → x ≡ b * 65536 + k → region_in x ≡ region_of b k
row_is b k x h g p =
    let e : x / 65536 % 256 ≡ b = omega arith in
    let f : x % 65536 ≡ k = omega arith in
    rw (e, f)

-- one row more
module _ (r : Regions) (i : ℕ) (t : List ℕ) (x : ℕ) (few : i < 23) (known : Rows r i t) (is : region_in x ≡ region_at r i) where
  more_rows : (j : ℕ) → j < i + 1 → region_in (get_or (set t (i + 1) x) (j + 1) 0) ≡ region_at r j
  more_rows j h = go (eqb j i) refl
    where
      go : (b : Bool) → eqb j i ≡ b → region_in (get_or (set t (i + 1) x) (j + 1) 0) ≡ region_at r j
      go true e = rw (eqb-true j i e, get_or-set_same t (i + 1) x 0 (omega (arith, known.sized))) is
      go false e =
          let n = eqb-false j i e in
          ap region_in (get_or-set_other t (i + 1) (j + 1) x 0 (λ q. n (omega arith))) ∙ known.rows j (omega (arith, n))

  pub row-added : Rows r (i + 1) (set t (i + 1) x)
  row-added =
      record {
        sized = length-set t (i + 1) x ∙ known.sized;
        rows = more_rows;
        zeros = λ j h. get_or-set_other t (i + 1) j x 0 (λ q. omega arith) ∙ known.zeros j (omega arith);
      }

same_step : (x : Region) (xs ys : List Region) (at c : ℕ) → (at + x.count ≤ c → letters_from xs (at + x.count) c ≡ letters_from ys (at + x.count) c)
    → letters_from (x ∷ xs) at c ≡ letters_from (x ∷ ys) at c
same_step x xs ys at c f = go (ltb c (at + x.count)) refl
  where
    go : (b : Bool) → ltb c (at + x.count) ≡ b → letters_from (x ∷ xs) at c ≡ letters_from (x ∷ ys) at c
    go true e = let h = ltb-true c (at + x.count) e in sym (name-here x xs at c h) ∙ name-here x ys at c h
    go false e = let h = ltb-false c (at + x.count) e in sym (name-more x xs at c h) ∙ f h ∙ name-more x ys at c h

-- all rows: the names are those of the regions
module _ (r : Regions) (t : List ℕ) (known : Rows r (length (regions_of r)) t) (c : ℕ) where
  names-past : (k i at : ℕ) → i + k ≡ 23 → length (regions_of r) ≤ i → at ≤ c → none ≡ letters_from (rows_left t (i + 1)) at c
  names-past zero i at e p h = row-none t (i + 1) at c h (omega arith)
  names-past (suc k) i at e p h =
      let z = known.zeros (i + 1) (omega arith) in
      names-past k (i + 1) (at + get_or t (i + 1) 0 % 65536) (omega arith) (omega arith) (omega arith) ∙ row_more t (i + 1) at c h (omega arith) (omega arith)

  none-past : (i at : ℕ) → length (regions_of r) ≤ i → none ≡ letters_from (drop i (regions_of r)) at c
  unfolding letters_from
  none-past i at p = rw (rest-none r i p)

  names-on : (k i at : ℕ) → i + k ≡ 23 → at ≤ c → letters_from (rows_left t (i + 1)) at c ≡ letters_from (drop i (regions_of r)) at c
  names-on zero i at e h = sym (names-past 0 i at e (omega (arith, at_most r)) h) ∙ none-past i at (omega (arith, at_most r))
  names-on (suc k) i at e h = go (ltb i (length (regions_of r))) refl (λ at h. names-on k (i + 1) at (omega arith) h)
    where
      go : (b : Bool) → ltb i (length (regions_of r)) ≡ b
          → ((at : ℕ) → at ≤ c → letters_from (rows_left t (i + 1 + 1)) at c ≡ letters_from (drop (i + 1) (regions_of r)) at c)
          → letters_from (rows_left t (i + 1)) at c ≡ letters_from (drop i (regions_of r)) at c
      go true q f =
          let l = ltb-true i (length (regions_of r)) q in
          rw (rows_more t (i + 1) (omega arith), known.rows i l, rest_more r i l) (same_step (region_at r i) _ _ at c (λ g. f _ g))
      go false q f =
          let l = ltb-false i (length (regions_of r)) q in
          sym (names-past (suc k) i at e l h) ∙ none-past i at l

  names-all : first_deck ≤ c → letters_from (rows_of t) first_deck c ≡ letters_from (regions_of r) first_deck c
  unfolding rows_of
  names-all h = names-on 23 0 first_deck refl h

  same_names : letters_of (rows_of t) c ≡ letters_of (regions_of r) c
  unfolding letters_of
  same_names =
      ap (λ (x : Option (ℕ × ℕ)). elim (eqb c 0) as (λ _. Option (ℕ × ℕ)) [ true ↦ none | false ↦ x ])
      (same_step _ _ _ 1 c (λ h. same_step _ _ _ (W 0) c (λ h. same_step _ _ _ (J 0) c names-all)))

-- where the regions end goes to place 0
ended : (r : Regions) (i : ℕ) (t : List ℕ) (x : ℕ) → Rows r i t → Rows r i (set t 0 x)
ended r i t x k =
    record {
      sized = length-set t 0 x ∙ k.sized;
      rows = λ j h. ap region_in (get_or-set_other t 0 (j + 1) x 0 (λ q. omega arith)) ∙ k.rows j h;
      zeros = λ j h. get_or-set_other t 0 j x 0 (λ q. omega arith) ∙ k.zeros j h;
    }

pub tells : (r : Regions) (i x : ℕ) (t : List ℕ) → i ≡ length (regions_of r) → Rows r i t → x ≡ end_of_regions (regions_of r) first_deck
    → Tells (set t 0 x) (regions_of r)
tells r i x t e k h =
    let a : Rows r (length (regions_of r)) (set t 0 x) = ended r (length (regions_of r)) t x (rw e at k) in
    record {
      sized = a.sized;
      top = get_or-set_same t 0 x 0 (omega (arith, k.sized)) ∙ h;
      names = λ c. same_names r (set t 0 x) a c;
    }
