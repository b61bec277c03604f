-- Step 3 in two parts: what is to be done, and doing it.
use Rattle.std.specs.Prelude.{ℕ, eqb}
use Rattle.paper.specs.declared.Refusal.TheVariants.{WrongKind}
use Rattle.paper.specs.declared.Symbol.{Symbol}
use Rattle.paper.specs.Cell.{Word, regional, word_in, is_term, is_process}
use Rattle.paper.specs.Act.{Act, ◌>>=◌, ◌>>◌, ret, refuse_if, if_then, touch, not_own, designate}
use Rattle.cycle.specs.declared.fetched.Fetched.{Fetched}

-- P, S and the LINK
pub record Order : Type 0 where
  pub p : ℕ
  pub x : Symbol
  pub link : ℕ

abbrev pub order : ℕ → Symbol → ℕ → Order
order p x l = record { p = p; x = x; link = l }

abbrev pub order_of : Fetched → Order
order_of r = order r.p r.x r.link

-- the lines of `obey` before the operation
unfoldable pub order_in : ℕ → Word → Act Order
order_in c w = do
  refuse_if (eqb w.q 4) (WrongKind c)
  not_own c
  x ← designate w.q w.symb
  ret (order w.p x w.link)

-- the lines of `interpret` before the operation; a process cell is executed, and its LINK reads as 0
unfoldable pub fetch : ℕ → Act Order
fetch c = do
  x ← touch c
  refuse_if (is_term x) (WrongKind c)
  if_then (is_process x) (ret (order 0 (regional c) 0)) (order_in c (word_in x))
