-- The region table that the code passes, as the list of regions of document 01.
use Rattle.std.specs.Prelude.{ℕ, zero, suc, ◌+◌, ◌≤◌, min, cond, List, [], ◌∷◌, ltb, get_or, set, replicate}
use Rattle.paper.specs.Limits.{largest_n, first_deck}
use Rattle.paper.specs.Region.{Region, end_of_regions}
use Rattle.regions.specs.declared.Regions.{Regions}

-- letter and count of number i
abbrev pub region_at : Regions → ℕ → Region
region_at r i = record { letter = get_or r.letters i 0; count = get_or r.counts i 0 }

-- k regions from number i on
unfoldable pub rows_from : Regions → ℕ → ℕ → List Region
rows_from r i zero = []
rows_from r i (suc k) = region_at r i ∷ rows_from r (suc i) k

-- a table has no more than 23
unfoldable pub regions_of : Regions → List Region
regions_of r = rows_from r 0 (min r.n 23)

abbrev pub no_regions : Regions
no_regions = record { letters = replicate 23 0; counts = replicate 23 0; n = 0 }

-- one region more, at the end; a full table stays as it is
abbrev pub and_region : Regions → ℕ → ℕ → Regions
and_region r b k = record { letters = set r.letters r.n b; counts = set r.counts r.n k; n = r.n + 1 }

unfoldable pub with_region : Regions → ℕ → ℕ → Regions
with_region r b k = cond (ltb r.n 23) (and_region r b k) r

-- the table's regions end within the largest store
pub record Laid (r : Regions) : Type 0 where
  pub ends : end_of_regions (regions_of r) first_deck ≤ largest_n
