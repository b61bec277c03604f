-- Laws of the order and the marks.
use Rattle.paper.proofs.Kit.{◌||◌, ℕ, zero, suc, ◌+◌, ◌-◌, ◌<◌, ◌≤◌, ◌≡◌, refl, sym, ap, ◌∙◌, subst, Bool, true, false, not, List, [], ◌∷◌, reverse}
use Rattle.paper.proofs.Kit.{reverse-append, arith, add-one, length, get_or, take, set, replicate, length-replicate, get_or-replicate, List·getD-eq-default}
use Rattle.paper.proofs.Kit.{take-suc, take-suc-set, get_or-set_same, get_or-set_other, ext_get_or, eqb, ltb, eqb-true, eqb-false, ltb-true, ltb-false}
use Rattle.paper.proofs.Kit.{not-false}
use Rattle.paper.specs.Limits.{largest_n}
use Rattle.paper.specs.Walk.{member}
use Rattle.structures.specs.Marks.{back, many_numbers, blank, Marked, Only, unmet}

-- one cell more
pub back_more : (order : List ℕ) (n : ℕ) → n < length order → back (n + 1) order ≡ get_or order n 0 ∷ back n order
back_more order n h =
    ap (λ (k : ℕ). back k order) (add-one n) ∙ ap reverse (take-suc order n 0 h) ∙ reverse-append (take n order) (get_or order n 0 ∷ [])

-- the same as a loop that counts down meets it
pub back-less : (order : List ℕ) (k : ℕ) → 0 < k → k ≤ length order → back k order ≡ get_or order (k - 1) 0 ∷ back (k - 1) order
back-less order k z h =
    let e : k - 1 + 1 ≡ k = omega arith in
    subst (λ (j : ℕ). back j order ≡ get_or order (k - 1) 0 ∷ back (k - 1) order) e (back_more order (k - 1) (omega arith))

pub back-set : (order : List ℕ) (n c : ℕ) → n < length order → back (n + 1) (set order n c) ≡ c ∷ back n order
back-set order n c h =
    ap (λ (k : ℕ). back k (set order n c)) (add-one n) ∙ ap reverse (take-suc-set order n c h) ∙ reverse-append (take n order) (c ∷ [])

blank-at : (c : ℕ) → get_or blank c 0 ≡ 0
blank-at c = go (ltb c many_numbers) refl
  where
    go : (b : Bool) → ltb c many_numbers ≡ b → get_or blank c 0 ≡ 0
    go true e = get_or-replicate {A = ℕ} many_numbers c 0 0 (ltb-true c many_numbers e)
    go false e = List·getD-eq-default blank 0 {n = c} (rw (length-replicate {A = ℕ} many_numbers 0) (ltb-false c many_numbers e))

pub marked-none : Marked blank []
unfolding member
marked-none = record { is = λ c. rw (blank-at c) }

pub marked_more : {marks seen : List ℕ} (c : ℕ) → c < length marks → Marked marks seen → Marked (set marks c 1) (c ∷ seen)
unfolding member
marked_more {marks} {seen} c h m = record { is = λ k. go k (eqb k c) refl }
  where
    go : (k : ℕ) (b : Bool) → eqb k c ≡ b → not (eqb (get_or (set marks c 1) k 0) 0) ≡ (b || member k seen)
    go k true e = rw (eqb-true k c e, get_or-set_same marks c 1 0 h)
    go k false e = rw (get_or-set_other marks c k 1 0 (eqb-false k c e)) (m.is k)

-- a cell that has no mark is not among those met
pub not-met : {marks seen : List ℕ} → Marked marks seen → (c : ℕ) → member c seen ≡ false → get_or marks c 0 ≡ 0
not-met {marks} {seen} m c e = eqb-true (get_or marks c 0) 0 (not-false (eqb (get_or marks c 0) 0) (m.is c ∙ e))

pub marked-only : {marks seen : List ℕ} → Marked marks seen → Only marks seen
marked-only m = record { is = not-met m }

-- one mark is taken away; none is left
pub only-less : {marks seen : List ℕ} (c : ℕ) → c < length marks → Only marks (c ∷ seen) → Only (set marks c 0) seen
unfolding member
only-less {marks} {seen} c h o = record { is = λ k e. go k (eqb k c) refl e }
  where
    go : (k : ℕ) (b : Bool) → eqb k c ≡ b → member k seen ≡ false → get_or (set marks c 0) k 0 ≡ 0
    go k true q e = rw (eqb-true k c q) (get_or-set_same marks c 0 0 h)
    go k false q e = get_or-set_other marks c k 0 0 (eqb-false k c q) ∙ o.is k (rw (q, e))

pub only_none : {marks : List ℕ} → length marks ≡ many_numbers → Only marks [] → marks ≡ blank
unfolding member
only_none {marks} h o = ext_get_or 0 marks blank (h ∙ sym (length-replicate {A = ℕ} many_numbers 0)) (λ i l. o.is i refl ∙ sym (blank-at i))

-- a cell that gets a mark is one fewer without
pub unmet-mark : (k : ℕ) (m : List ℕ) (c : ℕ) → c < k → c < length m → get_or m c 0 ≡ 0 → unmet k (set m c 1) + 1 ≡ unmet k m
unfolding unmet
unmet-mark zero m c h l e = absurd (omega arith)
unmet-mark (suc k) [] c h l e = absurd (omega arith)
unmet-mark (suc k) (x ∷ xs) zero h l e = rw e (omega arith)
unmet-mark (suc k) (x ∷ xs) (suc c) h l e = omega (arith, unmet-mark k xs c (omega arith) (omega arith) e)

unmet-new : (k n : ℕ) → k ≤ n → unmet k (replicate n 0) ≡ k
unfolding unmet
unmet-new zero n h = refl
unmet-new (suc k) zero h = absurd (omega arith)
unmet-new (suc k) (suc n) h = omega (arith, unmet-new k n (omega arith))

pub unmet-blank : (k : ℕ) → k ≤ largest_n → unmet k blank ≡ k
unmet-blank k h = unmet-new k many_numbers (omega arith)
