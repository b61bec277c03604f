-- Numbers from bytes, "numbers big-endian": 0 for a byte past the end.
use Rattle.std.specs.Prelude.{ℕ, ◌+◌, ◌*◌, List}
use Rattle.paper.specs.Record.{byte_at, pair_at}

-- N has three bytes, a budget four, the number of a cell eight
abbrev pub three_at : List ℕ → ℕ → ℕ
three_at b i = byte_at b i * 65536 + pair_at b (i + 1)

abbrev pub four_at : List ℕ → ℕ → ℕ
four_at b i = pair_at b i * 65536 + pair_at b (i + 2)

abbrev pub eight_at : List ℕ → ℕ → ℕ
eight_at b i = four_at b i * 4294967296 + four_at b (i + 4)
