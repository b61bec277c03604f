-- How a cell is kept in one number: 16 bits of LINK, 16 of SYMB, 8 of Q, 8 of P, then the kind: 0 word, 1 free, 2 data term, 3 process.
-- A free cell has its link in LINK. A data term has 32 bits and above them its sort: 0 an integer, as its value + 2 ^ 31, 1 a floating term. Bits that a
-- kind does not use are 0.
use Rattle.std.specs.Prelude.{ℕ, ◌*◌, ◌/◌, ◌%◌, ◌^◌, cond, eqb, ltb, ℤ}
use Rattle.std.proofs.Math.IntN.{sub_ℕ}
use Rattle.paper.specs.Cell.{Word, mk_word, Term, integer, floating, Cell, free, word, term, process}

abbrev pub link_of : ℕ → ℕ
link_of x = x % 2 ^ 16

abbrev pub symb_of : ℕ → ℕ
symb_of x = x / 2 ^ 16 % 2 ^ 16

abbrev pub q_of : ℕ → ℕ
q_of x = x / 2 ^ 32 % 2 ^ 8

abbrev pub p_of : ℕ → ℕ
p_of x = x / 2 ^ 40 % 2 ^ 8

abbrev pub word_of : ℕ → Word
word_of x = mk_word (p_of x) (q_of x) (symb_of x) (link_of x)

abbrev pub value_of : ℕ → ℤ
value_of a = sub_ℕ a (2 ^ 31)

-- the data term of a number
abbrev pub sort_of : ℕ → ℕ
sort_of x = x / 2 ^ 32 % 2

abbrev pub bits_of : ℕ → ℕ
bits_of x = x % 2 ^ 32

abbrev pub term_of : ℕ → Term
term_of x = cond (eqb (sort_of x) 0) (integer (value_of (bits_of x))) (floating (bits_of x))

-- the cell of a number
unfoldable pub unpack_of : ℕ → Cell
unpack_of x =
    cond (ltb x (2 ^ 48)) (word (word_of x))
    (cond (ltb x (2 * 2 ^ 48)) (free (link_of x))
    (cond (ltb x (3 * 2 ^ 48)) (term (term_of x)) process))
