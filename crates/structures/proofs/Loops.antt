-- A loop against a block that recurses over a list: whatever the rest of the block comes to, the whole comes to.
use Rattle.paper.proofs.Kit.{ℕ, ◌+◌, ◌-◌, ◌<◌, ◌≤◌, ◌≡◌, refl, sym, ap, ◌∙◌, Bool, List, [], ◌∷◌, ◌++◌, append_assoc, append-nil, map, arith}
use Rattle.paper.proofs.Kit.{length, get_or, drop, drop_of_length-le, reverse}
use Rattle.std.specs.Prelude.{Result, Ok, Err}
use Rattle.paper.specs.declared.Refusal.{Refusal}
use Rattle.paper.specs.declared.Refusal.TheVariants.{NotToBeFreed}
use Rattle.paper.specs.Cell.{State, Cell, free, word, empty_word}
use Rattle.paper.specs.Act.{Act, ◌>>=◌, ◌>>◌, ret, take_as, put, peek, reserved, refuse_if}
use Rattle.paper.specs.Walk.{none_reserved, take_all, copied, copy_all}
use Rattle.cells.specs.Bridge.{Rest}
use Rattle.steps.specs.Follows.{Follows, seen_as}
use Rattle.steps.specs.Follows as steps
use Rattle.steps.proofs.Sequence.{bind, then, bind_err, sees, test, test_err, give, most, alike, to_is, Judged}
use Rattle.undo.specs.Log.{used}
use Rattle.undo.specs.Did.{Always, Top, reading, lent}
use Rattle.undo.proofs.Lines.{looks}
use Rattle.structures.specs.Marks.{back}
use Rattle.structures.specs.Net.{free_from}
use Rattle.structures.specs.Walks.{Gets}
use Rattle.structures.proofs.Marks.{back-less}
use Rattle.structures.proofs.Lists.{drop-at}

abbrev Held : Type 0
Held = List ℕ × List ℕ

-- from M the code has come to N, in k writes; f is what the value of N is to that of M
pub record Onto {A B : Type 0} (K : Rest → Type 0) (k : ℕ) (M : Act A) (x : Held) (N : Act B) (f : B → A) (y : Held) : Type 0 where
  pub on : (j : ℕ) (z : Held) (r : Result B Refusal) → Follows lent K j N y z r → Follows lent K (k + j) M x z (seen_as f r)
  pub count : used y.1 ≤ used x.1 + k

seen-one : {A : Type 0} (r : Result A Refusal) → r ≡ seen_as (λ v. v) r
seen-one (Ok v) = refl
seen-one (Err e) = refl

seen-two : {A B C : Type 0} (f : B → A) (h : C → B) (f' : C → A) → ((v : C) → f (h v) ≡ f' v) → (r : Result C Refusal)
    → seen_as f (seen_as h r) ≡ seen_as f' r
seen-two f h f' e (Ok v) = ap (λ w. Ok w) (e v)
seen-two f h f' e (Err c) = refl

onto-none : {A : Type 0} {K : Rest → Type 0} {M : Act A} {x : Held} → Onto K 0 M x M (λ v. v) x
onto-none = record { on = λ j z r d. to_is (seen-one r) (most (0 + j) (omega arith) d); count = omega arith }

module _ {A B : Type 0} {K : Rest → Type 0} {k : ℕ} {M : Act A} {x y : Held} {N : Act B} {f : B → A} (g : Onto K k M x N f y) where
  -- m writes more
  onto-more : {C : Type 0} {N' : Act C} {y' : Held} (m k' : ℕ) (h : C → B) (f' : C → A) → k + m ≤ k' → used y'.1 ≤ used y.1 + m
      → ((v : C) → f (h v) ≡ f' v)
      → ((j : ℕ) (z : Held) (r : Result C Refusal) → Follows lent K j N' y' z r → Follows lent K (m + j) N y z (seen_as h r))
      → Onto K k' M x N' f' y'
  onto-more m k' h f' le u e t = record {
    on = λ j z r d. to_is (seen-two f h f' e r) (most (k' + j) (omega arith) (g.on (m + j) z (seen_as h r) (t j z r d)));
    count = omega (arith, g.count);
  }

  onto-end : {v : B} {w : A} (k' : ℕ) → k ≤ k' → f v ≡ w → Follows lent K 0 N y y (Ok v) → Follows lent K k' M x y (Ok w)
  onto-end {v} k' le e d = to_is (ap (λ w. Ok w) e) (most k' (omega arith) (g.on 0 y (Ok v) d))

  -- it is refused
  onto-err : {c : Refusal} {z : Held} (m k' : ℕ) → k + m ≤ k' → Follows lent K m N y z (Err c) → Follows lent K k' M x z (Err c)
  onto-err {c} {z} m k' le d = most k' le (g.on m z (Err c) d)

-- what reads writes nothing
pub no_writes : {A : Type 0} {K : Rest → Type 0} {M : Act A} {s l : List ℕ} {r : Result A Refusal} → Gets K M s r → Follows lent K 0 M (s, l) (s, l) r
no_writes {s = s} {l = l} d = record { is = d.is; kept = lent.same (s, l) }

-- free_from, from the last cell met down; k are left, and l is the link to the one freed last
abbrev pub Releases : List ℕ → ℕ → ℕ → Held → ℕ → Held → Type 0
Releases met k l₀ x l y = Onto Always (length met - k) (free_from l₀ (reverse met)) x (free_from l (back k met)) (λ v. v) y

module _ (met : List ℕ) (l₀ : ℕ) {x : Held} where
  module _ (k l : ℕ) {y : Held} (g : Releases met k l₀ x l y) where
    release-cons : 0 < k → k ≤ length met
        → (put (get_or met (k - 1) 0) (free l) >> free_from (get_or met (k - 1) 0) (back (k - 1) met)) ≡ free_from l (back k met)
    unfolding free_from
    release-cons z h = ap (free_from l) (sym (back-less met k z h))

    pub release-more : {y' : Held} → 0 < k → k ≤ length met → Follows lent Always 1 (put (get_or met (k - 1) 0) (free l)) y y' (Ok tt)
        → Releases met (k - 1) l₀ x (get_or met (k - 1) 0) y'
    release-more z h d =
        onto-more g 1 (length met - (k - 1)) (λ v. v) (λ v. v) (omega arith) d.kept.count (λ v. refl)
        (λ j z' r e. to_is (seen-one r) (alike (release-cons z h) (then d e)))

    release-nil : k ≡ 0 → Follows lent Always 0 (free_from l (back k met)) y y (Ok l)
    unfolding free_from
    release-nil e = rw e give

    pub release-end : k ≡ 0 → Follows lent Always (length met) (free_from l₀ (reverse met)) x y (Ok l)
    release-end e = onto-end g (length met) (omega arith) refl (release-nil e)

-- take_all; `news` are the cells taken
abbrev pub Takes : List ℕ → ℕ → Held → List ℕ → Held → Type 0
Takes met i x news y = Onto Always i (take_all met) x (take_all (drop i met)) (λ ns. news ++ ns) y

module _ (met : List ℕ) {x : Held} where
  pub take-first : Takes met 0 x [] x
  take-first = onto-none

  module _ (i : ℕ) (news : List ℕ) {y : Held} (g : Takes met i x news y) where
    pub take_more : {y' : Held} {t : ℕ} {news' : List ℕ} → i < length met → Follows lent Always 1 (take_as (word (empty_word 0))) y y' (Ok t)
        → news' ≡ news ++ (t ∷ []) → Takes met (i + 1) x news' y'
    unfolding take_all
    take_more {t = t} {news' = news'} h d p =
        onto-more g 1 (i + 1) (λ ns. t ∷ ns) (λ ns. news' ++ ns) (omega arith) d.kept.count
        (λ ns. sym (append_assoc news (t ∷ []) ns) ∙ ap (λ (u : List ℕ). u ++ ns) (sym p))
        (λ j z r e. most (1 + j) (omega arith) (alike (ap take_all (sym (drop-at met i h))) (bind _ d (rest t _ r e))))
      where
        rest : (t : ℕ) (os : List ℕ) {j : ℕ} {y z : Held} (r : Result (List ℕ) Refusal) → Follows lent Always j (take_all os) y z r
            → Follows lent Always j (take_all os >>= (λ ns. ret (t ∷ ns))) y z (seen_as (λ ns. t ∷ ns) r)
        rest t os {j} (Ok ns) e = most j (omega arith) (bind _ e give)
        rest t os (Err c) e = bind_err _ e

    pub take-err : {y' : Held} {c : Refusal} → i < length met → Follows lent Always 1 (take_as (word (empty_word 0))) y y' (Err c)
        → Follows lent Always (length met) (take_all met) x y' (Err c)
    unfolding take_all
    take-err h d = onto-err g 1 (length met) (omega arith) (alike (ap take_all (sym (drop-at met i h))) (bind_err _ d))

    pub take-end : {news' : List ℕ} → length met ≤ i → i ≤ length met → news ≡ news' → Follows lent Always (length met) (take_all met) x y (Ok news')
    unfolding take_all
    take-end h h' p = onto-end g (length met) h' (append-nil news ∙ p) (alike (ap take_all (sym (drop_of_length-le met {i = i} h))) give)

-- copy_all, where `new` tells the new cells
abbrev pub Copies : (ℕ → ℕ) → List ℕ → ℕ → Held → Held → Type 0
Copies new olds i x y = Onto Always i (copy_all new olds (map new olds)) x (copy_all new (drop i olds) (map new (drop i olds))) (λ v. v) y

module _ (new : ℕ → ℕ) (olds : List ℕ) {x : Held} where
  module _ (i : ℕ) {s l : List ℕ} (g : Copies new olds i x (s, l)) where
    pub copy_more : {y : Held} {c : Cell} → i < length olds → steps.Sees reading Always (peek (get_or olds i 0)) s c
        → Follows lent Always 1 (put (new (get_or olds i 0)) (copied new c)) (s, l) y (Ok tt)
        → Copies new olds (i + 1) x y
    unfolding copy_all
    copy_more h p d =
        onto-more g 1 (i + 1) (λ v. v) (λ v. v) (omega arith) d.kept.count (λ v. refl)
        (λ j z r e. to_is (seen-one r) (alike (ap (λ os. copy_all new os (map new os)) (sym (drop-at olds i h))) (looks _ p (then d e))))

    pub copy-end : (n : ℕ) → length olds ≤ i → i ≤ n → Follows lent Always n (copy_all new olds (map new olds)) x (s, l) (Ok tt)
    unfolding copy_all
    copy-end n h h' = onto-end g n h' refl (alike (ap (λ os. copy_all new os (map new os)) (sym (drop_of_length-le olds {i = i} h))) give)

-- none_reserved, which writes nothing
abbrev pub Frees : ℕ → List ℕ → ℕ → Type 0
Frees top cs i =
    (s : List ℕ) (r : Result (Unit {0}) Refusal) → Gets (Top top) (none_reserved (drop i cs)) s r → Gets (Top top) (none_reserved cs) s r

module _ (top : ℕ) (cs : List ℕ) (i : ℕ) (g : Frees top cs i) where
  module _ {t : Bool} (h : i < length cs) (p : (s : List ℕ) → steps.Sees reading (Top top) (reserved (get_or cs i 0)) s t) where
    pub free_more : Judged {S = State} steps.Always (refuse_if t (NotToBeFreed (get_or cs i 0))) (Ok tt) → Frees top cs (i + 1)
    unfolding none_reserved
    free_more j s r d = g s r (alike (ap none_reserved (sym (drop-at cs i h))) (sees _ (p s) (test j d)))

    pub free-err : {c : Refusal} → Judged {S = State} steps.Always (refuse_if t (NotToBeFreed (get_or cs i 0))) (Err c) → (s : List ℕ)
        → Gets (Top top) (none_reserved cs) s (Err c)
    unfolding none_reserved
    free-err {c} j s = g s (Err c) (alike (ap none_reserved (sym (drop-at cs i h))) (sees _ (p s) (test_err _ j)))

  pub free-end : length cs ≤ i → (s : List ℕ) → Gets (Top top) (none_reserved cs) s (Ok tt)
  unfolding none_reserved
  free-end h s = g s (Ok tt) (alike (ap none_reserved (sym (drop_of_length-le cs {i = i} h))) give)
