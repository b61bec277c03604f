-- What a preserve asks of its cell, as one block: a word that an action writes and a symbol names. proofs/Used shows the two alike.
use Rattle.std.specs.Prelude.{ℕ}
use Rattle.paper.specs.Cell.{Word}
use Rattle.paper.specs.Act.{Act, ◌>>=◌, ◌>>◌, ret, word_to, not_own}

unfoldable pub named_to : ℕ → Act Word
named_to c = do
  w ← word_to c  -- 21, 22, 27, 23
  not_own c  -- 27
  ret w
