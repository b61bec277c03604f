-- The list of processes: whatever its number, a process keeps a store sound, leaves a symbol of the store to be executed or nothing, and is done as
-- its entry says; one that is not listed is refused by 28.
use Rattle.paper.proofs.Kit.{◌||◌, ◌≡◌, refl, Bool, true, false, List, [], ◌∷◌, ℕ, ◌-◌, ◌≤◌, arith, leb, leb-true}
use Rattle.paper.specs.Cell.{State, J}
use Rattle.paper.specs.Act.{Act, done, refused, refuse, if_then, own, pop, NotListed}
use Rattle.paper.specs.Process.{Next, then, executing, J1, Entry, then_on, one, ten, control, listed, covers, is_listed_in, is_listed, perform_in, perform}
use Rattle.paper.proofs.Safe.{Safe, Any, bind, seq, start, safe-ret, safe-ret-at, safe-refuse, safe-if_then}
use Rattle.paper.proofs.SoundStore.{Frame, SymbolOk, as-local, as-internal, never, or-false, and-true}
use Rattle.paper.proofs.ActLaws.{Ok, forget, s-pop, s-top}
use Rattle.paper.proofs.Goes.{From, asks-known, ended}
use Rattle.paper.proofs.ProcessLaws.{Kept, s-set_h5, s-J2, s-J5, s-J6, s-J9, s-J2n, s-J3n, s-J4n, s-J5n, s-J60, s-J63, s-J64, s-J68, s-J71}
use Rattle.paper.proofs.ProcessLaws.{s-J72, s-J74, s-J90, s-combines, s-compares, s-compares0, s-changes, s-J120, s-J124, s-tests_tag, s-J131, s-retags}
use Rattle.paper.proofs.ProcessLaws.{s-J152, s-J153}

-- what a process leaves to be done: a symbol to be executed is one of the store
abbrev pub NextOk : Frame → Next → Type 0
NextOk F (then d) = Unit {0}
NextOk F (executing x) = SymbolOk F x

-- and only a pop leaves one
abbrev pub Pops : State → Next → State → Type 0
Pops s (then d) t = Unit {0}
Pops s (executing x) t = pop s ≡ done tt t

-- the list of processes

-- one that does as its entry says, for each of its numbers
pub record EntryOk (F : Frame) (e : Entry) : Type 0 where
  pub does : (k : ℕ) → e.from ≤ k → k ≤ e.up_to → Safe (Ok F []) (NextOk F) (λ _. Ok F []) (e.does (k - e.from))
  pub pops : (k : ℕ) (s : State) → Safe (From s) Any (Pops s) (e.does k)

infixr 5 ◌also◌
pub data AllEntries (F : Frame) : List Entry → Type 0 where
  no_more : AllEntries F []
  ◌also◌ : {e : Entry} {es : List Entry} → EntryOk F e → AllEntries F es → AllEntries F (e ∷ es)

then-pops : (m : Act (Unit {0})) (s : State) → Safe (From s) Any (Pops s) (then_on m)
unfolding then_on
then-pops m s = seq (asks-known {P = Unit {0}} tt) λ _ _. safe-ret _ tt (λ _ _. tt)

J1-pops : (s : State) → Safe (From s) Any (Pops s) J1
unfolding J1 own
J1-pops s = bind {P = Any} {J = λ _. From s} (record { at = λ u i. (i, tt) }) λ w0 _.
    seq (ended s pop) λ _ _. safe-ret-at _ λ t e. (e, tt)

module _ {F : Frame} where
  s-then_on : (m : Act (Unit {0})) → Kept F m → Safe (Ok F []) (NextOk F) (λ _. Ok F []) (then_on m)
  unfolding then_on
  s-then_on m h = seq h λ _ _. safe-ret _ tt (λ _ i. i)

  just : (n : ℕ) {m : Act (Unit {0})} → Kept F m → EntryOk F (one n m)
  just n {m} h = record { does = λ k _ _. s-then_on m h; pops = λ k. then-pops m }

  tens : (n : ℕ) {f : ℕ → Act (Unit {0})} → ((k : ℕ) → k ≤ 9 → Kept F (f k)) → EntryOk F (ten n f)
  tens n {f} h = record { does = λ k a b. s-then_on (f (k - n)) (h (k - n) (omega arith)); pops = λ k. then-pops (f k) }

  s-J1 : Safe (Ok F []) (NextOk F) (λ _. Ok F []) J1
  unfolding J1
  s-J1 = bind s-top λ w0 k. seq s-pop λ _ _. safe-ret _ k.good (λ _ i. i)

  its-J1 : EntryOk F (control 1 J1)
  its-J1 = record { does = λ k _ _. s-J1; pops = λ k. J1-pops }

module _ (F : Frame) where
  all_listed : AllEntries F listed
  unfolding listed
  all_listed =
      just 0 (safe-ret _ tt forget) also its-J1 also just 2 s-J2 also just 3 (s-set_h5 _) also just 4
      (s-set_h5 _) also just 5 s-J5 also just 6 s-J6 also just 8 s-pop also just 9 s-J9
      also tens 20 s-J2n also tens 30 s-J3n also tens 40 s-J4n also tens 50 s-J5n
      also just 60 s-J60 also just 63 s-J63 also just 64 s-J64 also just 68 s-J68
      also just 71 s-J71 also just 72 s-J72 also just 74 s-J74 also just 90 s-J90
      also just 110 (s-combines _) also just 111 (s-combines _)
      also just 114 (s-compares _) also just 115 (s-compares _) also just 116 (s-compares _)
      also just 117 (s-compares0 _) also just 118 (s-compares0 _) also just 119 (s-compares0 _)
      also just 120 s-J120 also just 123 (s-changes _ _) also just 124 s-J124 also just 125 (s-changes _ _)
      also just 130 (s-tests_tag _) also just 131 s-J131 also just 132 (s-tests_tag _) also just 134 (s-tests_tag _)
      also just 136 (s-retags _ as-local) also just 138 (s-retags _ as-internal)
      also just 152 s-J152 also just 153 s-J153 also no_more

module _ {F : Frame} where
  s-perform_in : (es : List Entry) → AllEntries F es → (n : ℕ) → Safe (Ok F []) (NextOk F) (λ _. Ok F []) (perform_in es n)
  unfolding perform_in
  s-perform_in [] no_more n = safe-refuse _
  s-perform_in (e ∷ es) (h also hs) n = safe-if_then _ (λ b. let (a, d) = and-true (leb e.from n) (leb n e.up_to) b in h.does n
      (leb-true e.from n a) (leb-true n e.up_to d)) (λ _. s-perform_in es hs n)

  pub s-perform : {us : List ℕ} (n : ℕ) → Safe (Ok F us) (NextOk F) (λ _. Ok F []) (perform n)
  unfolding perform
  s-perform n = start forget (s-perform_in listed (all_listed F) n)

  pops-in : (es : List Entry) → AllEntries F es → (n : ℕ) (s : State) → Safe (From s) Any (Pops s) (perform_in es n)
  unfolding perform_in
  pops-in [] no_more n s = safe-refuse _
  pops-in (e ∷ es) (h also hs) n s = safe-if_then _ (λ _. h.pops _ s) (λ _. pops-in es hs n s)

module _ (F : Frame) where
  pub perform-pops : (n : ℕ) (s : State) → Safe (From s) Any (Pops s) (perform n)
  unfolding perform
  perform-pops n s = pops-in listed (all_listed F) n s

-- an entry of a list
pub data Among (e : Entry) : List Entry → Type 0 where
  here : {es : List Entry} → Among e (e ∷ es)
  later : {f : Entry} {es : List Entry} → Among e es → Among e (f ∷ es)

-- a process that is not listed is refused by 28, and one that is listed does as its entry says
pub record Does (es : List Entry) (n : ℕ) : Type 0 where
  pub entry : Entry
  pub in_list : Among entry es
  pub covered : covers entry n ≡ true
  pub does : (s : State) → perform_in es n s ≡ entry.does (n - entry.from) s

unlisted-in : (es : List Entry) (n : ℕ) (s : State) → is_listed_in es n ≡ false → perform_in es n s ≡ refused (NotListed (J n))
unfolding perform_in is_listed_in refuse if_then
unlisted-in [] n s h = refl
unlisted-in (e ∷ es) n s h = let (a, b) = or-false (covers e n) (is_listed_in es n) h in rw (a, if_then) (unlisted-in es n s b)

listed_in : (es : List Entry) (n : ℕ) → is_listed_in es n ≡ true → Does es n
unfolding perform_in is_listed_in if_then
listed_in [] n h = never _ h refl
listed_in (e ∷ es) n h = go (covers e n) refl h (listed_in es n)
  where
    go : (b : Bool) → covers e n ≡ b → b || is_listed_in es n ≡ true → (is_listed_in es n ≡ true → Does es n) → Does (e ∷ es) n
    go true c h k = record { entry = e; in_list = here; covered = c; does = λ s. rw (c, if_then) }
    go false c h k = let d = k h in record {
      entry = d.entry;
      in_list = later d.in_list;
      covered = d.covered;
      does = λ s. rw (c, if_then) (d.does s);
    }

pub unlisted : (n : ℕ) (s : State) → is_listed n ≡ false → perform n s ≡ refused (NotListed (J n))
unfolding perform is_listed
unlisted n s h = unlisted-in listed n s h

pub is-listed : (n : ℕ) → is_listed n ≡ true → Does listed n
unfolding is_listed
is-listed n h = listed_in listed n h
