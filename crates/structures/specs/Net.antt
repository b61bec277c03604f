-- Freeing many cells and making many copies, by their net effect: H2 is written once. proofs/FreeNet and CopyNet show them alike.
use Rattle.std.specs.Prelude.{ℕ, List, [], ◌∷◌, map}
use Rattle.paper.specs.Cell.{free, word, with_link, H}
use Rattle.paper.specs.Act.{Act, ◌>>=◌, ◌>>◌, ret, own, put}
use Rattle.paper.specs.Walk.{take_all, renamed, copy_all}

-- each cell is freed, and linked to the one freed before it; the first to l
unfoldable pub free_from : ℕ → List ℕ → Act ℕ
free_from l [] = ret l
free_from l (c ∷ cs) = do
  put c (free l)
  free_from c cs

-- the free list begins with the last of them
unfoldable pub free_all : List ℕ → Act (Unit {0})
free_all cs = do
  h ← own (H 2)
  l ← free_from h.link cs
  put (H 2) (word (with_link h l))

-- a copy of the cells that a walk has met, as `copy` makes it: the new number of c
unfoldable pub copy_of : ℕ → List ℕ → Act ℕ
copy_of c olds = do
  news ← take_all olds  -- 26
  copy_all (renamed olds news) olds news
  ret (renamed olds news c)

-- the same where `new` tells the new cells, and the free list goes on from them at l
unfoldable pub copy_into : (ℕ → ℕ) → ℕ → ℕ → List ℕ → Act ℕ
copy_into new l c olds = do
  h ← own (H 2)
  put (H 2) (word (with_link h l))
  copy_all new olds (map new olds)
  ret (new c)
