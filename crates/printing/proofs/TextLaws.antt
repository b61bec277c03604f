-- Writing the text of a line: one byte after another, digits, the names of cells; and a line that is copied out.
use Rattle.paper.proofs.Kit.{ℕ, zero, suc, ◌+◌, ◌-◌, ◌/◌, ◌%◌, ◌^◌, ◌<◌, ◌≤◌, ◌≡◌, refl, ap, ◌∙◌, sym, subst, true, false, ◌≢◌, List, [], ◌∷◌, ◌++◌}
use Rattle.paper.proofs.Kit.{append_assoc, append-nil, arith, add-one, lt-ltb, le-ltb, eq-eqb, ne_eqb, length, take, drop, set, length-append}
use Rattle.paper.proofs.Kit.{length-set, take-suc-set, paste}
use Rattle.paper.specs.declared.Symbol.{Symbol}
use Rattle.paper.specs.Step.{choose}
use Rattle.paper.specs.Region.{Region, letters_of}
use Rattle.paper.specs.Limits.{hex_digits, longest_line}
use Rattle.paper.specs.Term.{is_integer}
use Rattle.paper.specs.Print.{digits_by, digits, integer_text, hex_digit, hex_by, term_text, cell_text, local_text, symbol_text}
use Rattle.paper.proofs.LineLaws.{hex-length}
use Rattle.cells.specs.Layout.{value_of, bits_of, term_of}
use Rattle.cells.proofs.Laws.{value_low, value-high, integer-is, floating-is}
use Rattle.printing.specs.Text.{Writes, Text, Puts}

pub writes-none : (l : List ℕ) (at : ℕ) → Writes l at [] l at
writes-none l at = record { text = sym (append-nil (take at l)); end = omega arith; sized = refl }

pub writes_one : (l : List ℕ) (at b : ℕ) → at < length l → Writes l at (b ∷ []) (set l at b) (at + 1)
writes_one l at b h = record { text = rw add-one (take-suc-set l at b h); end = refl; sized = length-set l at b }

pub writes_more : {l l₁ l₂ : List ℕ} {at m r : ℕ} {t u : List ℕ} → Writes l at t l₁ m → Writes l₁ m u l₂ r → Writes l at (t ++ u) l₂ r
writes_more {l} {at = at} {t = t} {u = u} p q =
    record {
      text = q.text ∙ ap (λ (x : List ℕ). x ++ u) p.text ∙ append_assoc (take at l) t u;
      end = rw length-append (omega (arith, p.end, q.end));
      sized = q.sized ∙ p.sized;
    }

pub writes_as : {l l' : List ℕ} {at r : ℕ} {t u : List ℕ} → t ≡ u → Writes l at t l' r → Writes l at u l' r
writes_as {l} {l'} {at} {r} p w = subst (λ t. Writes l at t l' r) p w

-- the digits of n, k of them at most
pub digits-none : (k n : ℕ) → k ≡ 0 → [] ≡ digits_by k n
unfolding digits_by
digits-none zero n e = refl
digits-none (suc k) n e = absurd (omega arith)

pub digits-one : (k n : ℕ) → k ≢ 0 → n < 10 → (48 + n) ∷ [] ≡ digits_by k n
unfolding digits_by
digits-one zero n z h = absurd (z refl)
digits-one (suc k) n z h = rw (lt-ltb n 10 h, digits_by)

pub digits_more : (k n : ℕ) → k ≢ 0 → 10 ≤ n → digits_by (k - 1) (n / 10) ++ ((48 + n % 10) ∷ []) ≡ digits_by k n
unfolding digits_by
digits_more zero n z h = absurd (z refl)
digits_more (suc k) n z h = let p : suc k - 1 ≡ k = omega arith in rw (le-ltb n 10 h, p, digits_by)

-- the last k hex digits of n
pub hex-low : (d : ℕ) → d < 10 → 48 + d ≡ hex_digit d
hex-low d h = rw (lt-ltb d 10 h)

pub hex-high : (d : ℕ) → 10 ≤ d → 65 + (d - 10) ≡ hex_digit d
hex-high d h = rw (le-ltb d 10 h)

pub hex-none : (k n : ℕ) → k ≡ 0 → [] ≡ hex_by k n
unfolding hex_by
hex-none zero n e = refl
hex-none (suc k) n e = absurd (omega arith)

pub hex-more : (k n : ℕ) → k ≢ 0 → hex_by (k - 1) (n / 16) ++ (hex_digit (n % 16) ∷ []) ≡ hex_by k n
unfolding hex_by
hex-more zero n z = absurd (z refl)
hex-more (suc k) n z = let p : suc k - 1 ≡ k = omega arith in rw (p, hex_by)

-- a text: another that is the same; what was written from the start, alone or after a byte
pub text-as : {k : ℕ} {l l' : List ℕ} {r : ℕ} {t u : List ℕ} → t ≡ u → Text k l t l' r → Text k l u l' r
text-as p w = record { writes = writes_as p w.writes; short = w.short }

pub text-of : {k : ℕ} {l l' : List ℕ} {r : ℕ} {t u : List ℕ} → t ≡ u → r < k → Writes l 0 t l' r → Text k l u l' r
text-of p h w = record { writes = writes_as p w; short = h }

pub text-after : {k : ℕ} {l l' : List ℕ} {r : ℕ} {t u : List ℕ} (b : ℕ) → b ∷ t ≡ u → r < k → 0 < length l → Writes (set l 0 b) 1 t l' r → Text k l u l' r
text-after {l = l} b p h z w = text-of p h (writes_more (writes_one l 0 b z) w)

-- an integer from its excess
pub integer-low : (v : ℕ) → v < 2 ^ 31 → 45 ∷ digits (2 ^ 31 - v) ≡ integer_text (value_of v)
integer-low v h =
    let p : 2 ^ 31 - v ≡ suc (2 ^ 31 - suc v) = omega arith in
    ap (λ (n : ℕ). 45 ∷ digits n) p ∙ sym (ap integer_text (value_low v h))

pub integer-high : (v : ℕ) → 2 ^ 31 ≤ v → digits (v - 2 ^ 31) ≡ integer_text (value_of v)
integer-high v h = sym (ap integer_text (value-high v h))

-- a data term of either sort
pub term-integer : (x : ℕ) → is_integer (term_of x) ≡ true → integer_text (value_of (bits_of x)) ≡ term_text (term_of x)
unfolding term_text
term-integer x e = rw (integer-is x e, term_text)

pub text-hex : {l l' : List ℕ} {r : ℕ} (x : ℕ) → is_integer (term_of x) ≡ false → Writes l 0 (hex_by hex_digits (bits_of x)) l' r
    → Text longest_line l (term_text (term_of x)) l' r
unfolding term_text
text-hex x e w = rw (floating-is x e, term_text) (record { writes = w; short = omega (arith, w.end, hex-length hex_digits (bits_of x)) })

-- a symbol, by its tag
module _ (rs : List Region) (x : Symbol) where
  pub symbol-local : x.tag ≡ 2 → local_text x.num ≡ symbol_text rs x
  unfolding symbol_text choose
  symbol-local h = rw (symbol_text, eq-eqb x.tag 2 h, choose)

  pub symbol-regional : x.tag ≢ 2 → x.tag ≡ 0 → cell_text x.num (letters_of rs x.num) ≡ symbol_text rs x
  unfolding symbol_text choose
  symbol-regional l h = rw (symbol_text, ne_eqb x.tag 2 l, eq-eqb x.tag 0 h, choose)

  pub symbol-other : x.tag ≢ 2 → x.tag ≢ 0 → digits x.num ≡ symbol_text rs x
  unfolding symbol_text choose
  symbol-other l z = rw (symbol_text, ne_eqb x.tag 2 l, ne_eqb x.tag 0 z, choose) refl

-- a text with its line feed, copied out
pub puts-line : {l l₁ l₂ : List ℕ} {e len : ℕ} {t : List ℕ} (d : List ℕ) (at : ℕ) {d' : List ℕ} {r : ℕ} → Writes l 0 t l₁ e → Writes l₁ e (10 ∷ []) l₂ len
    → r ≡ at + len → d' ≡ paste d at l₂ len → Puts d at (t ++ (10 ∷ [])) d' r
puts-line {len = len} {t = t} d at text feed p q =
    let w = writes_more text feed in
    record {
      end = omega (arith, p, w.end);
      bytes = q ∙ ap (λ (x : List ℕ). take at d ++ x ++ drop (at + len) d) w.text ∙ ap (λ (k : ℕ). take at d ++ (t ++ (10 ∷ [])) ++ drop k d) (sym p);
    }
