-- The cell of a regional symbol: along the regions of a table from number i on, and by letter.
use Rattle.paper.proofs.Kit.{ℕ, ◌+◌, ◌<◌, ◌≤◌, Bool, true, false, cond, List, [], ◌∷◌, ◌≡◌, sym, arith, eq-eqb, ne_eqb, eqb, ltb, length}
use Rattle.paper.proofs.Kit.{get_or}
use Rattle.std.proofs.lemmas.List.{length-take}
use Rattle.paper.proofs.Kit.{take, get_or-take, ◌∙◌}
use Rattle.paper.specs.Limits.{largest_n, first_deck}
use Rattle.paper.specs.Region.{Region, end_of_regions, H, W, J, cell_from, cell_of}
use Rattle.regions.specs.declared.Regions.{Regions}
use Rattle.regions.specs.Table.{regions_of}
use Rattle.regions.proofs.TableLaws.{rest_more, rest-none}
use Rattle.regions.proofs.RegionLaws.{rest, end_more}

past-start : (rs : List Region) (at : ℕ) → at ≤ end_of_regions rs at
unfolding end_of_regions
past-start [] at = omega arith
past-start (r ∷ rs) at = omega (arith, past-start rs (at + r.count))

yes-there : (t : Bool) (x y : ℕ) → t ≡ true → ◌≡◌ {A = ℕ} (elim t as (λ _. ℕ) [ true ↦ x | false ↦ y ]) x
yes-there t x y e = rw e

not_there : (t : Bool) (x y : ℕ) → t ≡ false → ◌≡◌ {A = ℕ} (elim t as (λ _. ℕ) [ true ↦ x | false ↦ y ]) y
not_there t x y e = rw e

pub more-fits : (r : Regions) (i : ℕ) → i < length (regions_of r) → (from k : ℕ) → k ≡ get_or r.counts i 0 → end_of_regions (rest r i) from ≤ largest_n
    → from + k ≤ largest_n
more-fits r i here from k counts h = omega (arith, end_more r i here from k counts, past-start (rest r (i + 1)) (from + k))

-- number i of letters and counts that go side by side
pub record Pair (r : Regions) (i b k : ℕ) : Type 0 where
  pub here : i < length (regions_of r)
  pub letter : b ≡ get_or r.letters i 0
  pub count : k ≡ get_or r.counts i 0

pub pair_at : (r : Regions) (m i b k : ℕ) → m ≡ length (regions_of r)
    → (i < length r.letters) × (i < length (take m r.counts)) × ((d : ℕ) → b ≡ get_or r.letters i d) × ((d : ℕ) → k ≡ get_or (take m r.counts) i d) → Pair r i b k
pair_at r m i b k e t =
    let h : i < m = omega (arith, length-take {A = ℕ}) in
    record { here = omega arith; letter = t.2 0; count = t.3 0 ∙ get_or-take m r.counts i 0 h }

module _ (r : Regions) (i : ℕ) (here : i < length (regions_of r)) (from k b n : ℕ) (counts : k ≡ get_or r.counts i 0) where
  pub deck-here : get_or r.letters i 0 ≡ b → cell_from (rest r i) from b n ≡ cond (ltb n k) (from + n) 0
  unfolding cell_from
  deck-here e = rw (rest_more r i here, counts) (yes-there (eqb (get_or r.letters i 0) b) _ _ (eq-eqb (get_or r.letters i 0) b e))

  pub deck-more : (get_or r.letters i 0 ≡ b → ⊥) → cell_from (rest r (i + 1)) (from + k) b n ≡ cell_from (rest r i) from b n
  unfolding cell_from
  deck-more e = rw (rest_more r i here, counts) (sym (not_there (eqb (get_or r.letters i 0) b) _ _ (ne_eqb (get_or r.letters i 0) b e)))

pub deck-none : (r : Regions) (i from b n : ℕ) → length (regions_of r) ≤ i → cell_from (rest r i) from b n ≡ 0
unfolding cell_from
deck-none r i from b n h = rw (rest-none r i h)

-- by letter
module _ (rs : List Region) (b n : ℕ) where
  pub cell-H : b ≡ 0x48 → cell_of rs b n ≡ cond (ltb n 10) (H n) 0
  unfolding cell_from
  cell-H e = rw e

  pub cell-W : b ≡ 0x57 → cell_of rs b n ≡ cond (ltb n 10) (W n) 0
  unfolding cell_from
  cell-W e = rw e

  pub cell-J : b ≡ 0x4A → cell_of rs b n ≡ cond (ltb n 200) (J n) 0
  unfolding cell_from
  cell-J e = rw e

  pub cell-deck : (b ≡ 0x48 → ⊥) → (b ≡ 0x57 → ⊥) → (b ≡ 0x4A → ⊥) → cell_of rs b n ≡ cell_from rs first_deck b n
  unfolding cell_from
  cell-deck h w j =
      rw (ne_eqb 0x48 b (λ e. h (sym e)), cell_from, ne_eqb 0x57 b (λ e. w (sym e)), cell_from, ne_eqb 0x4A b (λ e. j (sym e)))
