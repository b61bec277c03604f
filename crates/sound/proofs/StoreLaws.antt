-- The two loops over the cells, turn by turn.
use Rattle.paper.proofs.Kit.{◌||◌, ℕ, zero, suc, ◌+◌, ◌<◌, ◌≤◌, Bool, true, false, cond, ◌&&◌, not, and-false, List, ◌≡◌, refl, sym, add-one, arith, eqb}
use Rattle.paper.proofs.Kit.{length, get_or, drop, drop_of_length-le, List·getD-map, drop-cons}
use mir.Val.{bool_byte}
use Rattle.paper.specs.Cell.{Cell, free, word, term, process, zeros, is_free, free_link}
use Rattle.paper.specs.Sound.{cell_sound, cells_sound, free_count, free_list}
use Rattle.cells.specs.Layout.{unpack_of}
use Rattle.cells.specs.Bridge.{unpacked}
use Rattle.std.specs.Prelude.{Some, None}
use Rattle.sound.specs.Store.{formed, all_formed, number_sound, pass_of}

-- what one pass finds from cell c on
abbrev pub passes : ℕ → ℕ → ℕ → List ℕ → Bool
passes n end c s = all_formed s && cells_sound n end c (unpacked s)

swap : (a b d e : Bool) → (a && b && (d && e)) ≡ (a && d && (b && e))
swap true true d e = refl
swap true false d e = sym (and-false d)
swap false b d e = refl

count-one : (t : Bool) (k : ℕ) → bool_byte t + k ≡ elim t [ true ↦ suc k | false ↦ k ]
count-one true k = omega arith
count-one false k = omega arith

pub one-most : (t : Bool) → bool_byte t ≤ 1
one-most true = omega arith
one-most false = omega arith

module _ (s : List ℕ) (c : ℕ) (here : c < length s) where
  pub pass-turn : (n end : ℕ) (f : Bool) → f ≡ number_sound n end c (get_or s c 0)
      → (f && passes n end (c + 1) (drop (c + 1) s)) ≡ passes n end c (drop c s)
  unfolding all_formed cells_sound number_sound
  pass-turn n end f e =
      let x = get_or s c 0 in
      let xs = drop (suc c) s in
      rw (add-one c, drop-cons s c 0 here, e)
      (swap (formed x) (cell_sound n end c (unpack_of x)) (all_formed xs) (cells_sound n end (suc c) (unpacked xs)))

  pub count_turn : (t : Bool) → t ≡ is_free (unpack_of (get_or s c 0))
      → bool_byte t + free_count (unpacked (drop (c + 1) s)) ≡ free_count (unpacked (drop c s))
  unfolding free_count
  count_turn t e =
      rw (add-one c, drop-cons s c 0 here, e)
      (count-one (is_free (unpack_of (get_or s c 0))) (free_count (unpacked (drop (suc c) s))))

module _ (s : List ℕ) (c : ℕ) (past : length s ≤ c) where
  pub pass-none : (n end : ℕ) → passes n end c (drop c s) ≡ true
  unfolding all_formed cells_sound
  pass-none n end = rw (drop_of_length-le s past)

  pub count_none : free_count (unpacked (drop c s)) ≡ 0
  unfolding free_count
  count_none = rw (drop_of_length-le s past)

-- the free list: past the end stands a word of zeros, whose number is 0
at-number : (s : List ℕ) (c : ℕ) → get_or (unpacked s) c (word zeros) ≡ unpack_of (get_or s c 0)
unfolding unpack_of
at-number s c = List·getD-map unpack_of s c 0

follow-free : (t b : Bool) → cond (t || not true) false b ≡ (not t && b)
follow-free true b = refl
follow-free false b = refl

follow-other : (t b : Bool) → cond (t || not false) false b ≡ false
follow-other true b = refl
follow-other false b = refl

follow : (k c : ℕ) (cs : List Cell) (x : Cell) → cond (eqb c 0 || not (is_free x)) false (free_list k cs (free_link x))
    ≡ elim x [ free l ↦ not (eqb c 0) && free_list k cs l | word w ↦ false | term t ↦ false | process ↦ false ]
follow k c cs (free l) = follow-free (eqb c 0) (free_list k cs l)
follow k c cs (word w) = follow-other (eqb c 0) (free_list k cs 0)
follow k c cs (term t) = follow-other (eqb c 0) (free_list k cs 0)
follow k c cs process = follow-other (eqb c 0) (free_list k cs 0)

-- one cell of the list: it is no free cell, or the list goes on at its link
pub list-turn : (s : List ℕ) (left rest c x l : ℕ) (t f : Bool) → left ≡ suc rest → x ≡ get_or s c 0 → t ≡ is_free (unpack_of x) → free_link (unpack_of x) ≡ l
    → (eqb c 0 || not t) ≡ f → cond f false (free_list rest (unpacked s) l) ≡ free_list left (unpacked s) c
unfolding free_list
list-turn s left rest c x l t f o d e g h =
    rw (o, ← h, ← g, e, d, ← (at-number s c)) (follow rest c (unpacked s) (get_or (unpacked s) c (word zeros)))

pub list-end : (s : List ℕ) (left c : ℕ) → left ≤ 0 → eqb c 0 ≡ free_list left (unpacked s) c
unfolding free_list
list-end s zero c h = refl
list-end s (suc k) c h = absurd (omega arith)

-- the answer of the pass, from what it found
pub pass-no : (s : List ℕ) (end : ℕ) → passes (length s) end 0 s ≡ false → None ≡ pass_of end s
unfolding pass_of
pass-no s end e = rw e

pub pass-yes : (s : List ℕ) (end k : ℕ) → passes (length s) end 0 s ≡ true → k ≡ free_count (unpacked s) → Some k ≡ pass_of end s
unfolding pass_of
pass-yes s end k e h = rw (e, h)
