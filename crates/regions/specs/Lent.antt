-- The region table as a run lends it: place 0 is where the regions end, and each place after it a row, letter * 65536 + count. Rows of 0
-- name no cell, so there may be more rows than regions.
use Rattle.std.specs.Prelude.{Option as Answer, Some, None, ℕ, zero, suc, ◌/◌, ◌%◌, ◌^◌, ◌<◌, ◌≡◌, List, [], ◌∷◌, length, get_or}
use Rattle.std.proofs.Math.Option.{Option, none, some}
use Rattle.paper.specs.Limits.{first_deck}
use Rattle.paper.specs.Region.{Region, region_of, end_of_regions, letters_of}

-- the region of a row; a letter is a byte
abbrev pub region_in : ℕ → Region
region_in x = region_of (x / 65536 % 256) (x % 65536)

-- k rows from place i on
unfoldable pub rows_at : List ℕ → ℕ → ℕ → List Region
rows_at t i zero = []
rows_at t i (suc k) = region_in (get_or t i 0) ∷ rows_at t (suc i) k

unfoldable pub rows_of : List ℕ → List Region
rows_of t = rows_at t 1 23

-- the lent table tells where these regions end, and the name of every cell
pub record Tells (t : List ℕ) (rs : List Region) : Type 0 where
  pub sized : length t ≡ 24
  pub top : get_or t 0 0 ≡ end_of_regions rs first_deck
  pub names : (c : ℕ) → letters_of (rows_of t) c ≡ letters_of rs c

-- a table that tells regions which end among the cells' numbers
pub record Told (t : List ℕ) : Type 0 where
  pub low : get_or t 0 0 < 2 ^ 16
  pub regions : List Region
  pub tells : Tells t regions

-- letter and number, as the definitions have them
abbrev pub letters_in : Answer (ℕ × ℕ) → Option (ℕ × ℕ)
letters_in (Some x) = some x
letters_in None = none
