-- The number of a count: one more in the bits, but 0 after the last.
use Rattle.paper.proofs.Kit.{ℕ, suc, ◌+◌, ◌-◌, ◌*◌, ◌%◌, ◌^◌, ◌<◌, ◌≤◌, ◌≡◌, refl, ap, arith, dec_lt, pos, negsuc, ◌+ℤ◌, +ℤ_one, suc_ℤ}
use Rattle.paper.specs.Cell.{Term, integer, integer_in, term, term_in}
use Rattle.paper.specs.Cycle.{wrapped, one_more}
use Rattle.cells.specs.Layout.{unpack_of, value_of, sort_of, bits_of, term_of}
use Rattle.cells.specs.Pack.{Packs}
use Rattle.cells.proofs.Laws.{unpack-term, value_low, value-high, packs-integer}

-- below 0; from 0 on
low : (a : ℕ) → a < 2 ^ 31 → wrapped (value_of a +ℤ pos 1) ≡ value_of (suc a)
low a h = rw (+ℤ_one (value_of a), value_low a h) (go (dec_lt (suc a) (2 ^ 31)))
  where
    go : Dec (suc a < 2 ^ 31) → wrapped (suc_ℤ (negsuc (2 ^ 31 - suc a))) ≡ value_of (suc a)
    go (yes p) = let e : 2 ^ 31 - suc a ≡ suc (2 ^ 31 - suc (suc a)) = omega arith in rw (e, value_low (suc a) p)
    go (no p) =
        let e : 2 ^ 31 - suc a ≡ 0 = omega arith in
        let f : suc a - 2 ^ 31 ≡ 0 = omega arith in
        rw (e, value-high (suc a) (omega arith), f)

high : (a : ℕ) → 2 ^ 31 ≤ a → suc a < 2 ^ 32 → wrapped (value_of a +ℤ pos 1) ≡ value_of (suc a)
high a h l = rw (value-high a h, value-high (suc a) (omega arith)) (ap pos (omega arith))

pub next-bits : (a : ℕ) → suc a < 2 ^ 32 → wrapped (value_of a +ℤ pos 1) ≡ value_of (suc a)
next-bits a l = go (dec_lt a (2 ^ 31))
  where
    go : Dec (a < 2 ^ 31) → wrapped (value_of a +ℤ pos 1) ≡ value_of (suc a)
    go (yes p) = low a p
    go (no p) = high a (omega arith) l

-- a term t whose integer is a, and the number of the next
pub packs-next : (t : Term) (a b : ℕ) {r : ℕ} → integer_in t ≡ value_of a → wrapped (value_of a +ℤ pos 1) ≡ value_of b → Packs r (term (integer (value_of b)))
    → Packs r (term (one_more t))
packs-next t a b e f p = rw (e, f) p

pub last-bits : wrapped (value_of (2 ^ 32 - 1) +ℤ pos 1) ≡ value_of (2 ^ 31)
last-bits = refl

-- the integer of a term, by its sort and bits in one
pub integer-of : (r : ℕ) → r % 2 ^ 33 < 2 ^ 32 → integer_in (term_of r) ≡ value_of (r % 2 ^ 33)
integer-of r l =
    let s : sort_of r ≡ 0 = omega arith in
    let b : bits_of r ≡ r % 2 ^ 33 = omega arith in
    rw (s) (ap value_of b)

pub integer-none : (r : ℕ) → 2 ^ 32 ≤ r % 2 ^ 33 → integer_in (term_of r) ≡ value_of (2 ^ 31)
integer-none r l = let s : sort_of r ≡ 1 = omega arith in rw (s)

-- the number of a count but the last, and the one after it
pub next-number : (x : ℕ) → 2 * 2 ^ 48 ≤ x → x < 2 * 2 ^ 48 + (2 ^ 32 - 1) → Packs (x + 1) (term (one_more (term_in (unpack_of x))))
next-number x h l =
    let a = bits_of x in
    let s : sort_of x ≡ 0 = omega arith in
    rw (unpack-term x (omega arith) (omega arith), s, next-bits a (omega arith)) (packs-integer (suc a) (omega arith) (omega arith))
