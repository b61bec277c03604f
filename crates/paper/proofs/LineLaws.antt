-- How long a line can be, its line feed counted: what J152 prints of any symbol in a store that a run takes, and J153 of any data term; and that
-- a store has lines of just that length.
use Rattle.paper.proofs.Kit.{◌≡◌, refl, sym, ap, ◌∙◌, Bool, true, false, List, [], ◌∷◌, ◌++◌, Option, none, some, ℕ, zero, suc, ◌+◌, ◌-◌, ◌/◌, ◌%◌}
use Rattle.paper.proofs.Kit.{◌^◌, ◌<◌, ◌≤◌, arith, ltb, eqb, ℤ, pos, negsuc, length, length-append, add-one, set, get_or-set_same, get_or-set_other}
use Rattle.paper.specs.Limits.{first_deck, most_digits, cell_digits, hex_digits, largest_n, half_range, longest_symbol_line, longest_line}
use Rattle.paper.specs.Cell.{Symbol, Word, mk_word, symbol_of, Term, integer, floating, free, word, term, cell_at, is_free, Region, W, State, with_cells}
use Rattle.paper.specs.Region.{region_of, layout, letters_from, letters_of, regions_sound, end_of_regions, letter_taken}
use Rattle.paper.specs.Step.{choose}
use Rattle.paper.specs.Print.{digits_by, digits, hex_digit, hex_by, term_text, cell_text, symbol_text, line_bytes}
use Rattle.paper.proofs.SoundStore.{Frame, near, far-term, as-local, symbol-word, Sound, WordOk, in-store, its, put-sound}
use Rattle.paper.proofs.SoundTest.{sound-from, sound-passes}
use Rattle.paper.proofs.FreshLaws.{fresh_state, fresh-sound}
use Rattle.paper.proofs.BookLaws.{choose-both, choose-last, reserved-open}
use Rattle.paper.proofs.Demand1.{Runnable}
use Rattle.paper.proofs.TurnLaws.{digits-enough}

pub digits-length : (k n : ℕ) → length (digits_by k n) ≤ k
unfolding digits_by
digits-length zero n = omega arith
digits-length (suc k) n = go (ltb n 10) (digits-length k (n / 10))
  where
    go : (b : Bool) → length (digits_by k (n / 10)) ≤ k
        → length {A = ℕ} (elim b as (λ _. List ℕ) [ true ↦ (48 + n) ∷ [] | false ↦ digits_by k (n / 10) ++ ((48 + (n % 10)) ∷ []) ]) ≤ suc k
    go true h = omega arith
    go false h = simp length-append (omega arith)

-- a symbol: the number in a cell's name is at most that of the cell, and five digits are enough for it
abbrev Below : ℕ → Option (ℕ × ℕ) → Type 0
Below c none = Unit {0}
Below c (some x) = x.1 ≤ c

letters-below : (rs : List Region) (at c : ℕ) → Below c (letters_from rs at c)
unfolding letters_from
letters-below [] at c = tt
letters-below (r ∷ rs) at c = go (ltb c (at + r.count)) (letters-below rs (at + r.count) c)
  where
    go : (b : Bool) → Below c (letters_from rs (at + r.count) c)
        → Below c (elim b as (λ _. Option (ℕ × ℕ)) [ true ↦ some (r.letter, c - at) | false ↦ letters_from rs (at + r.count) c ])
    go true h = omega arith
    go false h = h

name_below : (rs : List Region) (c : ℕ) → Below c (letters_of rs c)
unfolding letters_of
name_below rs c = go (eqb c 0) (letters-below (layout rs) 1 c)
  where
    go : (b : Bool) → Below c (letters_from (layout rs) 1 c)
        → Below c (elim b as (λ _. Option (ℕ × ℕ)) [ true ↦ none | false ↦ letters_from (layout rs) 1 c ])
    go true h = tt
    go false h = h

pub cell-digits : (c : ℕ) → c < 10 ^ cell_digits → digits_by cell_digits c ≡ digits c
cell-digits c b = sym (digits-enough (cell_digits - 1) c (omega arith) b)

five-digits : (c : ℕ) → c < 10 ^ cell_digits → length (digits c) ≤ cell_digits
five-digits c b = rw (← cell-digits c b) (digits-length cell_digits c)

cell-line : (c : ℕ) (o : Option (ℕ × ℕ)) → c < 10 ^ cell_digits → Below c o → line_bytes (cell_text c o) ≤ longest_symbol_line
unfolding cell_text
cell-line c none b h = omega (arith, five-digits c b)
cell-line c (some x) b h = omega (arith, five-digits x.1 (omega arith))

pub symbol-line : (rs : List Region) (x : Symbol) → x.num < 10 ^ cell_digits → line_bytes (symbol_text rs x) ≤ longest_symbol_line
unfolding symbol_text
symbol-line rs x b =
    let short : List ℕ → Type 0 = λ t. line_bytes t ≤ longest_symbol_line in
    let number = five-digits x.num b in
    choose-both short _ _ _ _ (omega (arith, number))
    (choose-both short _ _ _ _ (cell-line x.num _ b (name_below rs x.num)) (choose-last short _ (omega (arith, number))))

pub hex-length : (k n : ℕ) → length (hex_by k n) ≡ k
unfolding hex_by
hex-length zero n = refl
hex-length (suc k) n = length-append (hex_by k (n / 16)) (hex_digit (n % 16) ∷ []) ∙ ap (λ (m : ℕ). m + 1) (hex-length k (n / 16)) ∙ add-one k

pub term-line : (t : Term) → line_bytes (term_text t) ≤ longest_line
unfolding term_text
term-line (integer (pos n)) = omega (arith, digits-length most_digits n)
term-line (integer (negsuc n)) = omega (arith, digits-length most_digits (suc n))
term-line (floating b) = omega (arith, hex-length hex_digits b)

-- CR 9: "eight hex digits", so 9 bytes with the line feed
pub floating-line : (b : ℕ) → line_bytes (term_text (floating b)) ≡ hex_digits + 1
unfolding term_text
floating-line b = omega (arith, hex-length hex_digits b)

-- every symbol of a store that a run takes, and every data term; `term-line` is of any, as the text has ten digits at most
module _ (s : State) (r : Runnable s) (c : ℕ) where
  pub every-symbol : (w : Word) → cell_at s.cells c ≡ word w → line_bytes (symbol_text s.regions (symbol_of w)) ≤ longest_symbol_line
  every-symbol w e =
      let k = sound-from s r.size r.test in
      let below : c < k.frame.n = omega (arith, k.n-is, in-store s c (ap is_free e)) in
      let ok : WordOk k.frame c w = rw e at (k.is_sound.each c below) in
      symbol-line s.regions (symbol_of w) (omega (arith, ok.symb<, k.frame.small))

  pub every-term : (t : Term) → cell_at s.cells c ≡ term t → line_bytes (term_text t) ≤ longest_line
  every-term t e = term-line t

-- both lengths are reached in one store: 9-10000 stands in W0, -2147483648 in A0
abbrev A0 : ℕ
A0 = first_deck

abbrev longest_symbol : Word
longest_symbol = mk_word 0 2 (10 ^ (cell_digits - 1)) 0

abbrev longest_integer : ℤ
longest_integer = negsuc (half_range - 1)

abbrev region_a : List Region
region_a = region_of 0x41 1 ∷ []

A-sound : regions_sound largest_n first_deck region_a ≡ true
unfolding regions_sound letter_taken
A-sound = refl

A-ends : end_of_regions region_a first_deck ≡ suc first_deck
unfolding end_of_regions
A-ends = refl

abbrev largest : Frame
largest = record {
  n = largest_n;
  rs = region_a;
  tally = integer (pos 0);
  had = [];
  out = 0;
  big = omega arith;
  small = omega arith;
  table = A-sound;
  end≥ = omega (arith, A-ends);
  end≤ = omega (arith, A-ends);
}

abbrev begins : State
begins = fresh_state largest

abbrev symbol_in : State
symbol_in = with_cells begins (set begins.cells (W 0) (word longest_symbol))

abbrev both : State
both = with_cells symbol_in (set symbol_in.cells A0 (term (integer longest_integer)))

begins-sound : Sound largest begins
begins-sound = fresh-sound largest refl (omega arith)

symbol_in-sound : Sound largest symbol_in
symbol_in-sound =
    let w = its largest (W 0) begins-sound (omega arith) (omega arith) in
    put-sound largest begins (W 0) (word longest_symbol) begins-sound (record { nonzero = omega arith; kept = ap is_free w.is }) (omega arith) (omega arith)
    (symbol-word (as-local 10000 (omega arith)) (omega arith) (near (omega arith) (omega arith))) refl

both-sound : Sound largest both
both-sound =
    put-sound largest symbol_in A0 (term (integer longest_integer)) symbol_in-sound (reserved-open A0 symbol_in-sound (omega arith) (omega (arith, A-ends))).used
    (omega arith) (omega arith) (far-term (omega arith) (omega arith)) refl

pub record Longest : Type 0 where
  pub store : State
  pub runnable : Runnable store
  pub symbol_at : cell_at store.cells (W 0) ≡ word longest_symbol
  pub symbol_line : line_bytes (symbol_text store.regions (symbol_of longest_symbol)) ≡ longest_symbol_line
  pub integer_at : cell_at store.cells A0 ≡ term (integer longest_integer)
  pub integer_line : line_bytes (term_text (integer longest_integer)) ≡ longest_line

pub longest-lines : Longest
unfolding symbol_text term_text choose digits_by
longest-lines =
    record {
      store = both;
      runnable = record { size = rw both-sound.size; test = sound-passes largest both both-sound };
      symbol_at =
          get_or-set_other symbol_in.cells A0 (W 0) (term (integer longest_integer)) (free 0) (omega arith)
          ∙ get_or-set_same begins.cells (W 0) (word longest_symbol) (free 0) (omega (arith, begins-sound.size));
      symbol_line = refl;
      integer_at = get_or-set_same symbol_in.cells A0 (term (integer longest_integer)) (free 0) (omega (arith, symbol_in-sound.size));
      integer_line = refl;
    }
