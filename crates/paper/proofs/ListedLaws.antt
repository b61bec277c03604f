-- What a listed process may be refused by, and what it prints. 28 is the answer of a process that is not listed, and of nothing else; 30 is that
-- of J152 and J153, and no other process prints.
use Rattle.paper.proofs.Kit.{clash, ◌≡◌, refl, sym, subst, ◌∙◌, Bool, true, false, ◌&&◌, List, [], ◌∷◌, ◌⊎◌, inl, inr, ⊎_elim, ℕ, ◌-◌, ◌<◌, ◌≤◌, arith}
use Rattle.paper.proofs.Kit.{ℕ_discrete, leb, leb-true}
use Rattle.paper.specs.Limits.{longest_line}
use Rattle.paper.specs.Step.{Res, done, refused, ◌>>◌, ret}
use Rattle.paper.specs.Cell.{J, State}
use Rattle.paper.specs.Act.{Act, Refusal, NotListed, NoRoom}
use Rattle.paper.specs.Process.{J152, J153, goes_on, Next, then, executing, Entry, then_on, one, ten, listed, covers, is_listed, perform}
use Rattle.paper.proofs.SoundStore.{Frame, Sound, and-true}
use Rattle.paper.proofs.PerformLaws.{Among, here, later, unlisted, is-listed}
use Rattle.paper.proofs.QuietLaws.{Other, Same, Still, Quiet, q-ret, q-seq, q_pop}
use Rattle.paper.proofs.QuietProcesses.{q-set_h5, q-J1, q-J2, q-J5, q-J6, q-J9, q-J2n, q-J3n, q-J4n, q-J5n, q-J60, q-J63, q-J64, q-J68, q-J71, q-J72}
use Rattle.paper.proofs.QuietProcesses.{q-J74, q-J90, q-combines, q-compares, q-compares0, q-J120, q-changes, q-J124, q-tests_tag, q-J131, q-retags}
use Rattle.paper.proofs.PrintLaws.{Printed, Line, unprinted, no-28, no-30, symbol_line, J152-prints, symbol-bound, J153-prints}

-- a process that prints: at most so many bytes by the state it begins in, and at most `longest_line` in a sound store
record Prints (m : Act (Unit {0})) : Type 0 where
  bytes : State → ℕ
  line : (s : State) → Line (bytes s) s (m s)
  most : (F : Frame) (s : State) → Sound F s → bytes s ≤ longest_line

J152-line : Prints J152
J152-line = record { bytes = symbol_line; line = J152-prints; most = λ F s i. omega (arith, symbol-bound F s i) }

J153-line : Prints J153
J153-line = record { bytes = λ s. longest_line; line = J153-prints; most = λ F s i. omega arith }

-- the numbers of those that print
abbrev pub Printer : ℕ → Type 0
Printer n = (n ≡ 152) ⊎ (n ≡ 153)

-- an entry of the list: what it does prints nothing; or it is one of these
data Kind : Entry → Type 0 where
  silent : {e : Entry} → ((k : ℕ) → Quiet (e.does k)) → Kind e
  printing : {n : ℕ} {m : Act (Unit {0})} → Prints m → Printer n → Kind (one n m)

q-then_on : {m : Act (Unit {0})} → Quiet m → Quiet (then_on m)
unfolding then_on
q-then_on h = q-seq h (q-ret _)

just : (n : ℕ) {m : Act (Unit {0})} → Quiet m → Kind (one n m)
just n h = silent (λ k. q-then_on h)

tens : (n : ℕ) {f : ℕ → Act (Unit {0})} → ((k : ℕ) → Quiet (f k)) → Kind (ten n f)
tens n h = silent (λ k. q-then_on (h k))

infixr 5 ◌and◌
data EachKind : List Entry → Type 0 where
  none : EachKind []
  ◌and◌ : {e : Entry} {es : List Entry} → Kind e → EachKind es → EachKind (e ∷ es)

all_kinds : EachKind listed
unfolding listed
all_kinds =
    just 0 (q-ret _) and silent (λ _. q-J1) and just 2 q-J2 and just 3 (q-set_h5 _) and just 4 (q-set_h5 _)
    and just 5 q-J5 and just 6 q-J6 and just 8 q_pop and just 9 q-J9
    and tens 20 q-J2n and tens 30 q-J3n and tens 40 q-J4n and tens 50 q-J5n
    and just 60 q-J60 and just 63 q-J63 and just 64 q-J64 and just 68 q-J68
    and just 71 q-J71 and just 72 q-J72 and just 74 q-J74 and just 90 q-J90
    and just 110 (q-combines _) and just 111 (q-combines _)
    and just 114 (q-compares _) and just 115 (q-compares _) and just 116 (q-compares _)
    and just 117 (q-compares0 _) and just 118 (q-compares0 _) and just 119 (q-compares0 _)
    and just 120 q-J120 and just 123 (q-changes _ _) and just 124 q-J124 and just 125 (q-changes _ _)
    and just 130 (q-tests_tag _) and just 131 q-J131 and just 132 (q-tests_tag _) and just 134 (q-tests_tag _)
    and just 136 (q-retags _) and just 138 (q-retags _)
    and printing J152-line (inl refl) and printing J153-line (inr refl) and none

kind-in : {e : Entry} {es : List Entry} → EachKind es → Among e es → Kind e
kind-in (h and hs) here = h
kind-in (h and hs) (later a) = kind-in hs a
kind-in {e = e} none a = elim a [ ]

then-line : (k : ℕ) (s : State) (m : Act (Unit {0})) → Line k s (m s) → Line k s (then_on m s)
unfolding then_on ret ◌>>◌
then-line k s m h = go (m s) h
  where
    go : (r : Res State Refusal (Unit {0})) → Line k s r → Line {A = Next} k s (elim r as (λ _. Res State Refusal Next) [
      | done a t ↦ done (then goes_on) t
      | refused e ↦ refused e
    ])
    go (done a t) p = p
    go (refused e) p = p

-- a listed process is never refused by 28; so 28 is given exactly where the process is not listed
not-28 : {e : Entry} → Kind e → (k c : ℕ) (s : State) → e.does k s ≡ refused (NotListed c) → ⊥
not-28 (silent q) k c s e = rw e at ((q k).at s)
not-28 (printing {m = m} h p) k c s e = no-28 (rw e at (then-line (h.bytes s) s m (h.line s))) c refl

pub listed-not-28 : (n c : ℕ) (s : State) → is_listed n ≡ true → perform n s ≡ refused (NotListed c) → ⊥
unfolding perform
listed-not-28 n c s h e = let d = is-listed n h in not-28 (kind-in all_kinds d.in_list) (n - d.entry.from) c s (sym (d.does s) ∙ e)

pub only-unlisted : (n c : ℕ) (s : State) → perform n s ≡ refused (NotListed c) → (is_listed n ≡ false) × (c ≡ J n)
only-unlisted n c s e = go (is_listed n) refl
  where
    go : (b : Bool) → is_listed n ≡ b → (is_listed n ≡ false) × (c ≡ J n)
    go true p = absurd (listed-not-28 n c s p e)
    go false p = (p, let q : refused (NotListed c) ≡ refused (NotListed (J n)) = sym e ∙ unlisted n s p in cc)

-- a listed process that is not J152 or J153 prints nothing, and is not refused by 30
exactly : (m n : ℕ) → leb m n && leb n m ≡ true → m ≡ n
exactly m n e = let (a, b) = and-true (leb m n) (leb n m) e in omega (arith, leb-true m n a, leb-true n m b)

quiet-in : {e : Entry} → Kind e → (n : ℕ) → covers e n ≡ true → (Printer n → ⊥) → (k : ℕ) → Quiet (e.does k)
quiet-in (silent q) n c x k = q k
quiet-in (printing {n = m} h p) n c x k = absurd (x (subst Printer (exactly m n c) p))

pub others-quiet : (n : ℕ) → is_listed n ≡ true → (Printer n → ⊥) → Quiet (perform n)
unfolding perform
others-quiet n h x =
    let d = is-listed n h in
    record { at = λ s. rw (d.does s) ((quiet-in (kind-in all_kinds d.in_list) n d.covered x (n - d.entry.from)).at s) }

pub only-printers : (n : ℕ) (s : State) → perform n s ≡ refused NoRoom → Printer n
only-printers n s e = go (ℕ_discrete n 152) (ℕ_discrete n 153) (is_listed n) refl
  where
    go : Dec (n ≡ 152) → Dec (n ≡ 153) → (b : Bool) → is_listed n ≡ b → Printer n
    go (yes p) _ b l = inl p
    go (no p) (yes q) b l = inr q
    go (no p) (no q) true l = absurd (rw e at ((others-quiet n l (⊎_elim p q)).at s))
    go (no p) (no q) false l = absurd (let h : refused NoRoom ≡ refused (NotListed (J n)) = sym e ∙ unlisted n s l in clash cc)

-- c is the cell of a process that is not listed
pub record Unlisted (c : ℕ) : Type 0 where
  pub number : ℕ
  pub cell : c ≡ J number
  pub unlisted : is_listed number ≡ false

-- what 28 and 30 mean where something is refused by them: a process is not listed; there is no room for the longest line
pub record Means (s : State) (e : Refusal) : Type 0 where
  pub at-28 : (c : ℕ) → e ≡ NotListed c → Unlisted c
  pub at-30 : e ≡ NoRoom → s.room < longest_line

pub neither : {s : State} {e : Refusal} → Other e → Means s e
neither h = record { at-28 = λ c p. absurd (subst Other p h); at-30 = λ p. absurd (subst Other p h) }

-- in a sound store any process prints `longest_line` bytes at most, and none where something is to be executed
abbrev pub Leaves : State → Res State Refusal Next → Type 0
Leaves s (done (then d) t) = Printed longest_line s t
Leaves s (done (executing x) t) = Same s t
Leaves s (refused e) = Means s e

still-leaves : (s : State) (r : Res State Refusal Next) → Still s r → Leaves s r
still-leaves s (done (then d) t) p = unprinted p
still-leaves s (done (executing x) t) p = p
still-leaves s (refused e) p = neither p

line-leaves : (k : ℕ) (s : State) → k ≤ longest_line → (r : Res State Refusal (Unit {0})) → Line k s r → Leaves s (elim r as (λ _. Res State Refusal Next) [
  | done a t ↦ done (then goes_on) t
  | refused e ↦ refused e
])
line-leaves k s h (done a t) p = record { line = p.line; ends = p.ends; lines = p.lines; short = omega (arith, p.short); room = p.room }
line-leaves k s h (refused e) p = record { at-28 = λ c q. absurd (no-28 p c q); at-30 = λ q. omega (arith, no-30 p q) }

kind-leaves : {e : Entry} → Kind e → (k : ℕ) (F : Frame) (s : State) → Sound F s → Leaves s (e.does k s)
unfolding then_on ret ◌>>◌
kind-leaves {e} (silent q) k F s i = still-leaves s (e.does k s) ((q k).at s)
kind-leaves (printing {m = m} h p) k F s i = line-leaves (h.bytes s) s (h.most F s i) (m s) (h.line s)

pub perform-leaves : (F : Frame) (n : ℕ) (s : State) → Sound F s → Leaves s (perform n s)
unfolding perform
perform-leaves F n s i = go (is_listed n) refl
  where
    go : (b : Bool) → is_listed n ≡ b → Leaves s (perform n s)
    go true p = let d = is-listed n p in rw (d.does s) (kind-leaves (kind-in all_kinds d.in_list) (n - d.entry.from) F s i)
    go false p = rw (unlisted n s p) (record { at-28 = λ c q. record { number = n; cell = cc; unlisted = p }; at-30 = λ q. clash cc })
