-- The table's list: how long it is, its rest from a number on, and one region more.
use Rattle.paper.proofs.Kit.{ℕ, zero, suc, ◌+◌, ◌<◌, ◌≤◌, min, List, [], ◌∷◌, ◌++◌, ◌≡◌, refl, ap, sym, ◌∙◌, min-eq_left, min-eq_right, zero-add, add-one}
use Rattle.paper.proofs.Kit.{arith, lt-ltb, length, get_or, drop, drop_of_length-le, drop-cons, get_or-set_same, get_or-set_other}
use Rattle.paper.specs.Cell.{Region}
use Rattle.regions.specs.declared.Regions.{Regions}
use Rattle.regions.specs.Table.{region_at, rows_from, regions_of, no_regions, and_region, with_region}

rows-length : (r : Regions) (i k : ℕ) → length (rows_from r i k) ≡ k
unfolding rows_from
rows-length r i zero = refl
rows-length r i (suc k) = ap suc (rows-length r (suc i) k)

pub held : (r : Regions) → length (regions_of r) ≡ min r.n 23
unfolding regions_of
held r = rows-length r 0 (min r.n 23)

pub full : (r : Regions) → 23 ≤ r.n → 23 ≡ length (regions_of r)
full r h = sym (held r ∙ min-eq_right h)

pub at_most : (r : Regions) → length (regions_of r) ≤ 23
at_most r = omega (arith, held r)

-- number i, and what comes after it
rows_at : (r : Regions) (j k i : ℕ) → i < k → get_or (rows_from r j k) i (region_at r 0) ≡ region_at r (j + i)
unfolding rows_from
rows_at r j zero i h = absurd (omega arith)
rows_at r j (suc k) zero h = ap (region_at r) (omega arith)
rows_at r j (suc k) (suc i) h = rows_at r (suc j) k i (omega arith) ∙ ap (region_at r) (omega arith)

region-at : (r : Regions) (i : ℕ) → i < length (regions_of r) → get_or (regions_of r) i (region_at r 0) ≡ region_at r i
unfolding regions_of
region-at r i h = rows_at r 0 (min r.n 23) i (omega (arith, held r)) ∙ ap (region_at r) (omega arith)

pub rest_more : (r : Regions) (i : ℕ) → i < length (regions_of r) → drop i (regions_of r) ≡ region_at r i ∷ drop (i + 1) (regions_of r)
rest_more r i h = rw (add-one, ← (region-at r i h)) (drop-cons (regions_of r) i (region_at r 0) h)

pub rest-none : (r : Regions) (i : ℕ) → length (regions_of r) ≤ i → drop i (regions_of r) ≡ []
rest-none r i h = drop_of_length-le (regions_of r) h

pub none-held : regions_of no_regions ≡ []
unfolding regions_of rows_from
none-held = refl

-- a region is added at the end
rows_more : (r : Regions) (i k : ℕ) → rows_from r i (suc k) ≡ rows_from r i k ++ (region_at r (i + k) ∷ [])
unfolding rows_from
rows_more r i zero = ap (λ (j : ℕ). region_at r j ∷ []) (omega arith)
rows_more r i (suc k) =
    let e : suc i + k ≡ i + suc k = omega arith in
    ap (λ (rs : List Region). region_at r i ∷ rs) (rows_more r (suc i) k ∙ ap (λ (j : ℕ). rows_from r (suc i) k ++ (region_at r j ∷ [])) e)

rows_alike : (r t : Regions) (i k : ℕ) → ((j : ℕ) → j < i + k → region_at r j ≡ region_at t j) → rows_from r i k ≡ rows_from t i k
unfolding rows_from
rows_alike r t i zero h = refl
rows_alike r t i (suc k) h = rw (h i (omega arith), rows_alike r t (suc i) k (λ j g. h j (omega arith)))

module _ (r : Regions) (b k : ℕ) (room : r.n < 23) (ls : length r.letters ≡ 23) (cs : length r.counts ≡ 23) where
  at-end : region_at (and_region r b k) (0 + r.n) ≡ record { letter = b; count = k }
  at-end = rw (zero-add, get_or-set_same r.letters r.n b 0 (omega arith), get_or-set_same r.counts r.n k 0 (omega arith))

  before-end : (j : ℕ) → j < r.n → region_at (and_region r b k) j ≡ region_at r j
  before-end j h = rw (get_or-set_other r.letters r.n j b 0 (λ e. omega arith), get_or-set_other r.counts r.n j k 0 (λ e. omega arith))

  pub one_more : regions_of (with_region r b k) ≡ regions_of r ++ (record { letter = b; count = k } ∷ [])
  unfolding regions_of with_region
  one_more =
      let m : min (r.n + 1) 23 ≡ suc r.n = min-eq_left (omega arith) ∙ add-one r.n in
      let l : min r.n 23 ≡ r.n = min-eq_left (omega arith) in
      rw (lt-ltb r.n 23 room, m, l)
      (rows_more (and_region r b k) 0 r.n
      ∙ (λ i. rows_alike (and_region r b k) r 0 r.n (λ j h. before-end j (omega arith)) i ++ (at-end i ∷ [])))
