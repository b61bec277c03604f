-- A cycle prints nothing or a text with its line feed, at most `longest_line` bytes, and is refused by 30 only where fewer are left; by 28 only for a process
-- that is not listed.
use Rattle.paper.proofs.Kit.{◌≡◌, refl, Bool, true, false, List, [], ℕ, zero, suc, ◌<◌, arith, length}
use Rattle.paper.specs.Limits.{longest_line}
use Rattle.paper.specs.Step.{Res, done, refused, ◌>>=◌, ◌>>◌, ret, if_then}
use Rattle.paper.specs.Cell.{Symbol, regional, Word, word_in, State}
use Rattle.paper.specs.Act.{Act, Refusal, sized, symbol_in, symbol_in_that, designate}
use Rattle.paper.specs.Process.{perform}
use Rattle.paper.specs.Cycle.{Control, goes_on, moved, Next, then, executing, after, descend, finish, performs, execute, executes, copy_to, put_in, go_to}
use Rattle.paper.specs.Cycle.{branch, operate, to_link, advance, obey, direct, interpret, link_of, ascend, work, count, cycle}
use Rattle.paper.proofs.Safe.{After, Safe, safe-refuse_if}
use Rattle.paper.proofs.SoundStore.{Frame}
use Rattle.paper.proofs.ActLaws.{Ok, own-H1, s-own, s-touch, s-not_own, s-designate}
use Rattle.paper.proofs.PerformLaws.{NextOk, s-perform}
use Rattle.paper.proofs.BookLaws.{choose-both, choose-last}
use Rattle.paper.proofs.CycleLaws.{the_word}
use Rattle.paper.proofs.Demand1.{Runnable}
use Rattle.paper.proofs.SoundTest.{sound-from}
use Rattle.paper.proofs.QuietLaws.{Same, Still, Quiet, q-ret, q-check, q-refuse, q-bind, q-seq, q-if, q-peek, q-put, q-own, q-touch, q-not_own, q-name_of, q-read_at}
use Rattle.paper.proofs.QuietLaws.{q-preserve, q-restore, q-store, q-own_preserve, q-own_restore, q-own_store, q-push, q_pop}
use Rattle.paper.proofs.PrintLaws.{Printed, unprinted, printed-from, printed-to}
use Rattle.paper.proofs.ListedLaws.{Means, neither, Leaves, perform-leaves}

-- what does not print, in a cycle
q-count : Quiet count
unfolding count
q-count = q-bind (q-peek _) λ x. q-put _ _

q-descend : (x : Symbol) → Quiet (descend x)
unfolding descend
q-descend x = q-seq (q-own_preserve _) (q-seq (q-own_store _ x) (q-ret _))

q-after : {m : Act (Unit {0})} → Quiet m → Quiet (after m)
unfolding after
q-after h = q-seq h (q-ret _)

q-copy_to : (c : ℕ) → Quiet (copy_to c)
unfolding copy_to
q-copy_to c = q-bind (q-own _) λ w0. q-store c _

q-put_in : (c : ℕ) → Quiet (put_in c)
unfolding put_in
q-put_in c = q-seq (q-copy_to c) q_pop

q-branch : (x : Symbol) → Quiet (branch x)
unfolding branch go_to
q-branch x = q-bind (q-own _) λ h. q-if _ (q-seq (q-own_store _ x) (q-ret _)) (q-ret _)

q-to_link : (l : ℕ) → Quiet (to_link l)
unfolding to_link
q-to_link l = q-bind (q-name_of l) λ x. q-own_store _ x

q-advance : (l : ℕ) (d : Control) → Quiet (advance l d)
unfolding advance
q-advance l moved = q-ret _
q-advance l goes_on = q-to_link l

q-ascend : Quiet ascend
unfolding ascend link_of
q-ascend = q-seq (q-own_restore _) (q-bind (q-own _) λ h. q-bind (q-bind (q-touch _) λ x. q-seq (q-check _ _ tt) (q-seq (q-not_own _) (q-ret _))) q-to_link)

q-symbol_in : (c : ℕ) → Quiet (symbol_in c)
unfolding symbol_in
q-symbol_in c = q-bind (q-read_at c) λ w. q-ret _

q-designate : (q c : ℕ) → Quiet (designate q c)
unfolding designate symbol_in_that
q-designate q c =
    choose-both Quiet _ _ _ _ (q-name_of c) (choose-both Quiet _ _ _ _ (q-symbol_in c) (choose-last Quiet _ (q-bind (q-read_at c) λ w. q-symbol_in _)))

-- at most so many bytes are printed; and where it is refused by 30, there was no room for the longest line, where by 28, the process is not listed
abbrev pub Few : {A : Type 0} → State → Res State Refusal A → Type 0
Few s (done a t) = Printed longest_line s t
Few s (refused e) = Means s e

record Bounded {A : Type 0} (I : State → Type 0) (m : Act A) : Type 0 where
  at : (s : State) → I s → Few s (m s)

still-few : {A : Type 0} (s : State) (r : Res State Refusal A) → Still s r → Few s r
still-few s (done a t) p = unprinted p
still-few s (refused e) p = neither p

few-from : {A : Type 0} {s t : State} → Same s t → (r : Res State Refusal A) → Few t r → Few s r
few-from p (done a u) q = printed-from p q
few-from p (refused e) q = record { at-28 = q.at-28; at-30 = λ f. omega (arith, p.room, q.at-30 f) }

few-to : {A : Type 0} {s t : State} → Printed longest_line s t → (r : Res State Refusal A) → Still t r → Few s r
few-to p (done a u) q = printed-to p q
few-to p (refused e) q = neither q

module _ {I : State → Type 0} where
  quiet : {A : Type 0} {m : Act A} → Quiet m → Bounded I m
  quiet {m = m} q = record { at = λ s i. still-few s (m s) (q.at s) }

  -- nothing is printed before; nothing after
  quiet_bind : {A B : Type 0} {P : A → Type 0} {J : A → State → Type 0} {m : Act A} {f : A → Act B} → Quiet m → Safe I P J m
      → ((a : A) → P a → Bounded (J a) (f a)) → Bounded I (m >>= f)
  unfolding ◌>>=◌
  quiet_bind {A} {B} {P} {J} {m} {f} q h k = record { at = λ s i. go s (m s) (q.at s) (h.at s i) }
    where
      go : (s : State) (r : Res State Refusal A) → Still s r → After r (λ a t. J a t × P a)
          → Few {A = B} s (elim r as (λ _. Res State Refusal B) [ done a t ↦ f a t | refused e ↦ refused e ])
      go s (done a t) p j = few-from p (f a t) ((k a j.1).at t j.0)
      go s (refused e) p j = neither p

  quiet-seq : {A B : Type 0} {P : A → Type 0} {J : A → State → Type 0} {m : Act A} {n : Act B} → Quiet m → Safe I P J m
      → ((a : A) → P a → Bounded (J a) n) → Bounded I (m >> n)
  unfolding ◌>>◌
  quiet-seq {A} {B} {P} {J} {m} {n} q h k = record { at = λ s i. go s (m s) (q.at s) (h.at s i) }
    where
      go : (s : State) (r : Res State Refusal A) → Still s r → After r (λ a t. J a t × P a)
          → Few {A = B} s (elim r as (λ _. Res State Refusal B) [ done a t ↦ n t | refused e ↦ refused e ])
      go s (done a t) p j = few-from p (n t) ((k a j.1).at t j.0)
      go s (refused e) p j = neither p

  few-bind : {A B : Type 0} {m : Act A} {f : A → Act B} → Bounded I m → ((a : A) → Quiet (f a)) → Bounded I (m >>= f)
  unfolding ◌>>=◌
  few-bind {A} {B} {m} {f} h k = record { at = λ s i. go s (m s) (h.at s i) }
    where
      go : (s : State) (r : Res State Refusal A) → Few s r
          → Few {A = B} s (elim r as (λ _. Res State Refusal B) [ done a t ↦ f a t | refused e ↦ refused e ])
      go s (done a t) p = few-to p (f a t) ((k a).at t)
      go s (refused e) p = p

  few-seq : {A B : Type 0} {m : Act A} {n : Act B} → Bounded I m → Quiet n → Bounded I (m >> n)
  unfolding ◌>>=◌ ◌>>◌
  few-seq h k = few-bind h (λ _. k)

  few-if : {A : Type 0} (b : Bool) {m n : Act A} → (b ≡ true → Bounded I m) → (b ≡ false → Bounded I n) → Bounded I (if_then b m n)
  unfolding if_then
  few-if true h k = record { at = λ s i. (h refl).at s i }
  few-if false h k = record { at = λ s i. (k refl).at s i }

module _ {F : Frame} where
  -- what J1 leaves is executed, and nothing is printed before
  few-performs : {us : List ℕ} (again : Symbol → Act Control) → ((y : Symbol) → Bounded (Ok F []) (again y)) → (n : ℕ) → Bounded (Ok F us) (performs again n)
  unfolding performs finish ret ◌>>=◌
  few-performs again h n = record { at = λ s i. go s (perform n s) (perform-leaves F n s i.sound) ((s-perform n).at s i) }
    where
      go : (s : State) (r : Res State Refusal Next) → Leaves s r → After r (λ m t. Ok F [] t × NextOk F m)
          → Few {A = Control} s (elim r as (λ _. Res State Refusal Control) [ done m t ↦ finish again m t | refused e ↦ refused e ])
      go s (done (then d) t) p k = p
      go s (done (executing x) t) p k = few-from p (again x t) ((h x).at t k.0)
      go s (refused e) p k = p

  few-execute : {us : List ℕ} (n : ℕ) (x : Symbol) → Bounded (Ok F us) (execute n x)
  unfolding execute
  few-execute zero x = quiet (q-refuse _ tt)
  few-execute (suc n) x =
      quiet_bind (q-touch _) (s-touch x.num) λ y _. quiet-seq (q-not_own _) (s-not_own x.num) λ _ _.
      few-if _ (λ _. few-performs _ (λ z. few-execute n z) _) (λ _. quiet (q-descend x))

  few-executes : {us : List ℕ} (x : Symbol) → Bounded (Ok F us) (executes x)
  unfolding executes sized
  few-executes x = record { at = λ s i. (few-execute (suc (length s.cells)) x).at s i }

  few-operate : {us : List ℕ} (p : ℕ) (x : Symbol) → Bounded (Ok F us) (operate p x)
  unfolding operate
  few-operate {us} p x =
      choose-both Low _ _ _ _ (few-executes x) (
      choose-both Low _ _ _ _ (quiet (q-after (q-push x))) (
      choose-both Low _ _ _ _ (quiet (q-after (q-put_in _))) (
      choose-both Low _ _ _ _ (quiet (q-after (q-restore _))) (
      choose-both Low _ _ _ _ (quiet (q-after (q-preserve _))) (
      choose-both Low _ _ _ _ (quiet (q-after (q-own_store _ x))) (
      choose-both Low _ _ _ _ (quiet (q-after (q-copy_to _))) (
      choose-last Low _ (quiet (q-branch x)))))))))
    where
      Low : Act Control → Type 0
      Low m = Bounded (Ok F us) m

  few-obey : {us : List ℕ} (c : ℕ) (w : Word) → w.symb < F.n → Bounded (Ok F us) (obey c w)
  unfolding obey
  few-obey c w b =
      quiet-seq (q-check _ _ tt) (safe-refuse_if _ _) λ _ _. quiet-seq (q-not_own c) (s-not_own c) λ _ _.
      quiet_bind (q-designate _ _) (s-designate w.q w.symb b) λ x _. few-bind (few-operate w.p x) λ d. q-advance _ d

  few-interpret : {us : List ℕ} (c : ℕ) → Bounded (Ok F us) (interpret c)
  unfolding interpret direct
  few-interpret c =
      quiet_bind (q-touch c) (s-touch c) λ x h. quiet-seq (q-check _ _ tt) (safe-refuse_if _ _) λ _ e.
      few-if _ (λ _. few-bind (few-executes (regional c)) λ d. q-advance _ d)
      (λ p. few-obey c (word_in x) (the_word F c x e p h.kept h.holds).symb<)

  few-work : {us : List ℕ} → Bounded (Ok F us) work
  unfolding work
  few-work = quiet_bind (q-own _) (s-own 2 own-H1) λ h _. few-if _ (λ _. quiet q-ascend) (λ _. few-interpret _)

  few-cycle : {us : List ℕ} → Bounded (Ok F us) cycle
  unfolding cycle
  few-cycle = few-seq few-work q-count

-- so of every cycle
pub cycle-line : (s : State) → Runnable s → Few s (cycle s)
cycle-line s r = let k = sound-from s r.size r.test in (few-cycle {F = k.frame} {us = []}).at s (record { sound = k.is_sound; used = tt })
