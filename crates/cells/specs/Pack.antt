-- The number of a cell. What fits its fields unpacks to itself, and a formed number is the number of its cell: the round trips
-- `unpack-pack` and `pack-unpack` of proofs/Laws.
use Rattle.std.specs.Prelude.{ℕ, suc, ◌+◌, ◌-◌, ◌*◌, ◌^◌, ◌<◌, ◌≤◌, ◌≡◌, List, [], ◌∷◌, map, ℤ, pos, negsuc}
use Rattle.paper.specs.Cell.{Word, mk_word, Term, integer, floating, Cell, free, word, term, process}
use Rattle.cells.specs.Layout.{unpack_of}
use Rattle.cells.specs.declared.Cell.{Cell as CodeCell}
use Rattle.cells.specs.declared.Cell.TheVariants.{Free, Word as AWord, Term as ATerm, Process}
use Rattle.cells.specs.Layout.{term_of}

abbrev pub excess : ℤ → ℕ
excess (pos n) = 2 ^ 31 + n
excess (negsuc n) = 2 ^ 31 - suc n

abbrev pub term_bits : Term → ℕ
term_bits (integer z) = excess z
term_bits (floating b) = 2 ^ 32 + b

abbrev pub pack_of : Cell → ℕ
pack_of (free l) = 2 ^ 48 + l
pack_of (word w) = w.p * 2 ^ 40 + w.q * 2 ^ 32 + w.symb * 2 ^ 16 + w.link
pack_of (term t) = 2 * 2 ^ 48 + term_bits t
pack_of process = 3 * 2 ^ 48

-- the cells that fit their fields
pub record WordFits (w : Word) : Type 0 where
  pub p : w.p < 2 ^ 8
  pub q : w.q < 2 ^ 8
  pub symb : w.symb < 2 ^ 16
  pub link : w.link < 2 ^ 16

abbrev pub IntegerFits : ℤ → Type 0
IntegerFits (pos n) = n < 2 ^ 31
IntegerFits (negsuc n) = n < 2 ^ 31

abbrev pub TermFits : Term → Type 0
TermFits (integer z) = IntegerFits z
TermFits (floating b) = b < 2 ^ 32

abbrev pub CellFits : Cell → Type 0
CellFits (free l) = l < 2 ^ 16
CellFits (word w) = WordFits w
CellFits (term t) = TermFits t
CellFits process = Unit {0}

-- the numbers that hold a cell: no bit is set that its kind does not use
pub data Valid (x : ℕ) : Type 0 where
  a_word : x < 2 ^ 48 → Valid x
  a-free : 2 ^ 48 ≤ x → x < 2 ^ 48 + 2 ^ 16 → Valid x
  a-term : 2 * 2 ^ 48 ≤ x → x < 2 * 2 ^ 48 + 2 ^ 33 → Valid x
  a-process : x ≡ 3 * 2 ^ 48 → Valid x

-- r is the number of the cell x
pub record Packs (r : ℕ) (x : Cell) : Type 0 where
  pub unpacks : unpack_of r ≡ x
  pub formed : pack_of (unpack_of r) ≡ r

-- each number is that of its cell
abbrev pub AllFormed : List ℕ → Type 0
AllFormed [] = Unit {0}
AllFormed (x ∷ s) = (pack_of (unpack_of x) ≡ x) × AllFormed s

abbrev pub packed : List Cell → List ℕ
packed cs = map pack_of cs

-- the definitions' cell of a cell of the code
abbrev pub cell_of : CodeCell → Cell
cell_of (Free l) = free l
cell_of (AWord w) = word (mk_word w.p w.q w.symb w.link)
cell_of (ATerm v) = term (term_of v)
cell_of Process = process
