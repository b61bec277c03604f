-- A symbol by its tag: `regional`, `local` and `internal` are `tagged` 0, 2 and 4.
use Rattle.std.specs.Prelude.{ℕ}
use Rattle.paper.specs.declared.Symbol.{Symbol}

abbrev pub tagged : ℕ → ℕ → Symbol
tagged t n = record { tag = t; num = n }
