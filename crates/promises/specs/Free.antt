-- Free cells, told from the numbers alone.
use Rattle.std.specs.Prelude.{ℕ, suc, ◌*◌, ◌^◌, Bool, true, false, ◌&&◌, List, [], ◌∷◌, leb, ltb, get_or}

-- the kind of a cell stands above its 48 bits, and that of a free cell is 1 (cells/specs/Layout)
abbrev pub free_number : ℕ → Bool
free_number x = leb (2 ^ 48) x && ltb x (2 * 2 ^ 48)

-- whether the number at c is that of a free cell; past the end there is none
abbrev pub free_at : List ℕ → ℕ → Bool
free_at s c = free_number (get_or s c 0)

-- how many are free
unfoldable pub free_numbers : List ℕ → ℕ
free_numbers [] = 0
free_numbers (x ∷ s) = elim (free_number x) [ true ↦ suc (free_numbers s) | false ↦ free_numbers s ]
