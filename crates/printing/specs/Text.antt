-- Bytes that are written into a line.
use Rattle.std.specs.Prelude.{ℕ, ◌+◌, ◌<◌, ◌≡◌, List, ◌++◌, length, take, drop}

-- from `at` on: the first r are those before, then t
pub record Writes (l : List ℕ) (at : ℕ) (t : List ℕ) (l' : List ℕ) (r : ℕ) : Type 0 where
  pub text : take r l' ≡ take at l ++ t
  pub end : r ≡ at + length t
  pub sized : length l' ≡ length l

-- the text of a line, from its start: with its line feed k bytes at most
pub record Text (k : ℕ) (l t l' : List ℕ) (r : ℕ) : Type 0 where
  pub writes : Writes l 0 t l' r
  pub short : r < k

-- t stands in d from `at` on, up to r; the other bytes are as they were
pub record Puts (d : List ℕ) (at : ℕ) (t : List ℕ) (d' : List ℕ) (r : ℕ) : Type 0 where
  pub end : r ≡ at + length t
  pub bytes : d' ≡ take at d ++ t ++ drop r d
