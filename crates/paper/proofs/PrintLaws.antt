-- What J152 and J153 print: a line of at most so many bytes. They are refused by 30 where it does not fit, and never by 28.
use Rattle.paper.proofs.Kit.{clash, dec_lt, lt-ltb, le-ltb, ◌≡◌, refl, sym, ap, subst, ◌∙◌, List, [], ◌∷◌, ◌++◌, append-nil, ℕ, ◌+◌, ◌<◌, ◌≤◌, arith}
use Rattle.paper.proofs.Kit.{length, length-append}
use Rattle.paper.specs.Limits.{longest_symbol_line, longest_line}
use Rattle.paper.specs.Step.{Res, done, refused, ◌>>=◌, ◌>>◌, refuse_if, asks, becomes}
use Rattle.paper.specs.Cell.{Term, symbol_of, word_in, State, H}
use Rattle.paper.specs.Act.{Act, Refusal, NotListed, NoRoom, own, term_at, pop}
use Rattle.paper.specs.Print.{symbol_text, term_text, feed_byte, line_bytes, with_line, print_line}
use Rattle.paper.specs.Process.{J152, J153}
use Rattle.paper.proofs.SoundStore.{Frame, at, Sound, its}
use Rattle.paper.proofs.LineLaws.{symbol-line, term-line}
use Rattle.paper.proofs.QuietLaws.{Other, Same, Still, Quiet, q_pop, q-term_at}

-- nothing, or bytes that a line feed ends
pub data Ended : List ℕ → Type 0 where
  nothing : Ended []
  fed : (xs : List ℕ) → Ended (xs ++ (feed_byte ∷ []))

-- t has the lines of s, and at most k bytes more: none, or a text with its line feed
pub record Printed (k : ℕ) (s t : State) : Type 0 where
  pub line : List ℕ
  pub ends : Ended line
  pub lines : t.lines ≡ s.lines ++ line
  pub short : length line ≤ k
  pub room : t.room + length line ≡ s.room

-- a refusal that is no 28, and 30 only for want of k bytes
pub data Cause (k : ℕ) (s : State) : Refusal → Type 0 where
  other : {e : Refusal} → Other e → Cause k s e
  scarce : s.room < k → Cause k s NoRoom

abbrev pub Line : {A : Type 0} → ℕ → State → Res State Refusal A → Type 0
Line k s (done a t) = Printed k s t
Line k s (refused e) = Cause k s e

-- nothing is printed before; nothing after
pub unprinted : {k : ℕ} {s t : State} → Same s t → Printed k s t
unprinted {s = s} p = record { line = []; ends = nothing; lines = p.lines ∙ sym (append-nil s.lines); short = omega arith; room = omega (arith, p.room) }

pub printed-from : {k : ℕ} {s t u : State} → Same s t → Printed k t u → Printed k s u
printed-from p q = record { line = q.line; ends = q.ends; lines = q.lines ∙ ap (λ xs. xs ++ q.line) p.lines; short = q.short; room = q.room ∙ p.room }

pub printed-to : {k : ℕ} {s t u : State} → Printed k s t → Same t u → Printed k s u
printed-to p q = record { line = p.line; ends = p.ends; lines = q.lines ∙ p.lines; short = p.short; room = ap (λ n. n + length p.line) q.room ∙ p.room }

still-line : {A : Type 0} (k : ℕ) {s t : State} → Printed k s t → (r : Res State Refusal A) → Still t r → Line k s r
still-line k p (done a u) q = printed-to p q
still-line k p (refused e) q = other q

line-from : {A : Type 0} (k : ℕ) {s t : State} → Same s t → (r : Res State Refusal A) → Line k t r → Line k s r
line-from k p (done a u) q = printed-from p q
line-from k p (refused e) (other h) = other h
line-from k p (refused e) (scarce h) = scarce (omega (arith, p.room))

pub no-28 : {k : ℕ} {s : State} {e : Refusal} → Cause k s e → (c : ℕ) → e ≡ NotListed c → ⊥
no-28 (other h) c p = subst Other p h
no-28 (scarce h) c p = clash cc

pub no-30 : {k : ℕ} {s : State} {e : Refusal} → Cause k s e → e ≡ NoRoom → s.room < k
no-30 (other h) p = absurd (subst Other p h)
no-30 (scarce h) p = h

-- 30 comes where the line does not fit, and else it is printed whole
module _ (t : List ℕ) (s : State) where
  pub print-full : s.room < line_bytes t → print_line t s ≡ refused NoRoom
  unfolding print_line asks refuse_if becomes ◌>>=◌ ◌>>◌
  print-full h = rw (lt-ltb s.room (line_bytes t) h)

  pub print-fits : line_bytes t ≤ s.room → print_line t s ≡ done tt (with_line t s)
  unfolding print_line asks refuse_if becomes ◌>>=◌ ◌>>◌
  print-fits h = rw (le-ltb s.room (line_bytes t) h)

  whole : (k : ℕ) → line_bytes t ≤ k → line_bytes t ≤ s.room → Printed k s (with_line t s)
  whole k h fits =
      let size : length (t ++ (feed_byte ∷ [])) ≡ line_bytes t = length-append t (feed_byte ∷ []) ∙ omega arith in
      record { line = t ++ (feed_byte ∷ []); ends = fed t; lines = refl; short = omega (arith, size); room = omega (arith, size) }

-- a line, and then nothing more
prints : {A : Type 0} (t : List ℕ) (k : ℕ) → line_bytes t ≤ k → {n : Act A} → Quiet n → (s : State) → Line k s ((print_line t >> n) s)
unfolding ◌>>◌
prints t k h {n} q s = go (dec_lt s.room (line_bytes t))
  where
    go : Dec (s.room < line_bytes t) → Line k s ((print_line t >> n) s)
    go (yes less) = rw (print-full t s less, ◌>>◌) (scarce (omega arith))
    go (no more) =
        let fits : line_bytes t ≤ s.room = omega arith in
        rw (print-fits t s fits, ◌>>◌) (still-line k (whole t s k h fits) (n (with_line t s)) (q.at (with_line t s)))

-- J152: the symbol in H0 decides
abbrev pub symbol_line : State → ℕ
symbol_line s = line_bytes (symbol_text s.regions (symbol_of (word_in (at s (H 0)))))

pub J152-prints : (s : State) → Line (symbol_line s) s (J152 s)
unfolding J152 own asks ◌>>=◌
J152-prints s = prints (symbol_text s.regions (symbol_of (word_in (at s (H 0))))) (symbol_line s) (omega arith) q_pop s

pub J152-full : (s : State) → s.room < symbol_line s → J152 s ≡ refused NoRoom
unfolding J152 own asks ◌>>=◌ ◌>>◌
J152-full s h = rw (print-full (symbol_text s.regions (symbol_of (word_in (at s (H 0))))) s h, ◌>>◌)

pub symbol-bound : (F : Frame) (s : State) → Sound F s → symbol_line s ≤ longest_symbol_line
symbol-bound F s i =
    let w = its F (H 0) i (omega arith) (omega arith) in
    let below : (word_in (at s (H 0))).symb < F.n = rw w.is w.good.symb< in
    symbol-line s.regions (symbol_of (word_in (at s (H 0)))) (omega (arith, F.small))

-- J153: a data term
term-prints : (x : Term) (s : State) → Line longest_line s ((print_line (term_text x) >> pop) s)
term-prints x s = prints (term_text x) longest_line (term-line x) q_pop s

pub J153-prints : (s : State) → Line longest_line s (J153 s)
unfolding J153 own ◌>>=◌
J153-prints s = go (term_at (word_in (at s (H 0))).symb s) ((q-term_at (word_in (at s (H 0))).symb).at s)
  where
    go : (r : Res State Refusal Term) → Still s r → Line {A = Unit {0}} longest_line s
        (elim r as (λ _. Res State Refusal (Unit {0})) [ done x t ↦ (print_line (term_text x) >> pop) t | refused e ↦ refused e ])
    go (done x t) p = line-from longest_line p ((print_line (term_text x) >> pop) t) (term-prints x t)
    go (refused e) p = other p
