-- Laws of a run of the free list: each of its cells is free and leads to one other, so a run whose last cell is none of those before has
-- no cell twice.
use Rattle.paper.proofs.Kit.{◌||◌, ℕ, zero, suc, ◌+◌, ◌-◌, ◌<◌, ◌≡◌, refl, sym, ap, ◌∙◌, subst, Bool, true, false, List, [], ◌∷◌, ◌++◌, arith, eqb-true}
use Rattle.paper.proofs.Kit.{eq-eqb, eqb, length, get_or, length-append}
use Rattle.paper.specs.Cell.{Cell, is_free, free_link, cell_at}
use Rattle.paper.specs.Walk.{member}
use Rattle.paper.proofs.SoundStore.{never, or-false}
use Rattle.cells.specs.Layout.{unpack_of}
use Rattle.cells.specs.Bridge.{unpacked, cell_in}
use Rattle.structures.specs.Marks.{Once}
use Rattle.structures.specs.Copies.{Run}

-- a member is at some place, and what is at a place is a member
abbrev pub Place : ℕ → List ℕ → Type 0
Place c xs = (k : ℕ) × (k < length xs) × (get_or xs k 0 ≡ c)

pub place : (c : ℕ) (xs : List ℕ) → member c xs ≡ true → Place c xs
unfolding member
place c [] e = never _ e refl
place c (x ∷ xs) e = go (eqb c x) refl e (place c xs)
  where
    go : (b : Bool) → eqb c x ≡ b → b || member c xs ≡ true → (member c xs ≡ true → Place c xs) → Place c (x ∷ xs)
    go true p e f = (0, omega arith, sym (eqb-true c x p))
    go false p e f = let (k, h, q) = f e in (suc k, omega arith, q)

pub either-member : (b c : Bool) → c ≡ true → b || c ≡ true
either-member true c e = refl
either-member false c e = e

at_place : (xs : List ℕ) (k : ℕ) → k < length xs → member (get_or xs k 0) xs ≡ true
unfolding member
at_place [] k h = absurd (omega arith)
at_place (x ∷ xs) zero h = simp (eq-eqb x x refl)
at_place (x ∷ xs) (suc k) h = either-member (eqb (get_or xs k 0) x) (member (get_or xs k 0) xs) (at_place xs k (omega arith))

-- places of a list with one more at its end
at_front : (xs ys : List ℕ) (k : ℕ) → k < length xs → get_or (xs ++ ys) k 0 ≡ get_or xs k 0
at_front [] ys k h = absurd (omega arith)
at_front (x ∷ xs) ys zero h = refl
at_front (x ∷ xs) ys (suc k) h = at_front xs ys k (omega arith)

at-end : (xs : List ℕ) (z : ℕ) → get_or (xs ++ (z ∷ [])) (length xs) 0 ≡ z
at-end [] z = refl
at-end (x ∷ xs) z = at-end xs z

module _ (cs : List Cell) where
  -- one cell more
  run_more : (ns : List ℕ) (x y : ℕ) → Run cs x ns y → (y ≡ 0 → ⊥) → is_free (cell_at cs y) ≡ true → Run cs x (ns ++ (y ∷ [])) (free_link (cell_at cs y))
  run_more [] x y r z f = (sym r, (λ e. z (sym r ∙ e)), subst (λ k. is_free (cell_at cs k) ≡ true) (sym r) f, ap (λ k. free_link (cell_at cs k)) r)
  run_more (n ∷ ns) x y r z f = (r.0, r.1, r.2, run_more ns (free_link (cell_at cs x)) y r.3 z f)

  -- a cell in use is none of them
  pub run-free : (ns : List ℕ) (x y c : ℕ) → Run cs x ns y → is_free (cell_at cs c) ≡ false → member c ns ≡ false
  unfolding member
  run-free [] x y c r f = refl
  run-free (n ∷ ns) x y c r f = go (eqb c n) refl (run-free ns (free_link (cell_at cs x)) y c r.3 f)
    where
      go : (b : Bool) → eqb c n ≡ b → member c ns ≡ false → b || member c ns ≡ false
      go true e m = never _ r.2 (subst (λ k. is_free (cell_at cs k) ≡ false) (eqb-true c n e ∙ r.0) f)
      go false e m = m

  -- so many links on
  far : ℕ → ℕ → ℕ
  far zero x = x
  far (suc k) x = far k (free_link (cell_at cs x))

  far-add : (i j x : ℕ) → far (i + j) x ≡ far j (far i x)
  unfolding far
  far-add zero j x = let e : 0 + j ≡ j = omega arith in ap (λ k. far k x) e
  far-add (suc i) j x = let e : suc i + j ≡ suc (i + j) = omega arith in ap (λ k. far k x) e ∙ far-add i j (free_link (cell_at cs x))

  run_at : (ns : List ℕ) (x y k : ℕ) → Run cs x ns y → k < length ns → get_or ns k 0 ≡ far k x
  unfolding far
  run_at [] x y k r h = absurd (omega arith)
  run_at (n ∷ ns) x y zero r h = r.0
  run_at (n ∷ ns) x y (suc k) r h = run_at ns (free_link (cell_at cs x)) y k r.3 (omega arith)

  -- the first cell is none of the others: it would lead round to the last before its time
  module _ (n : ℕ) (ns : List ℕ) (x y z : ℕ) (r : Run cs x (n ∷ (ns ++ (z ∷ []))) y) where
    round : (k : ℕ) → k < length (ns ++ (z ∷ [])) → get_or (ns ++ (z ∷ [])) k 0 ≡ n → member z (n ∷ ns) ≡ true
    round k h p =
        let all : List ℕ = n ∷ (ns ++ (z ∷ [])) in
        let m : ℕ = length (n ∷ ns) in
        let j : ℕ = m - suc k in
        let l : length (ns ++ (z ∷ [])) ≡ length ns + 1 = length-append ns (z ∷ []) in
        let i : suc k + j ≡ m = omega arith in
        let e : far (suc k) x ≡ x = sym (run_at all x y (suc k) r (omega arith)) ∙ p ∙ r.0 in
        let f : far m x ≡ far j x = ap (λ q. far q x) (sym i) ∙ far-add (suc k) j x ∙ ap (far j) e in
        let g : z ≡ get_or (n ∷ ns) j 0 =
        sym (at-end (n ∷ ns) z) ∙ run_at all x y m r (omega arith) ∙ f ∙ sym (run_at all x y j r (omega arith))
        ∙ at_front (n ∷ ns) (z ∷ []) j (omega arith) in
        subst (λ q. member q (n ∷ ns) ≡ true) (sym g) (at_place (n ∷ ns) j (omega arith))

    first-once : member z (n ∷ ns) ≡ false → member n (ns ++ (z ∷ [])) ≡ false
    first-once m = go (member n (ns ++ (z ∷ []))) refl
      where
        go : (b : Bool) → member n (ns ++ (z ∷ [])) ≡ b → b ≡ false
        go true e = let (k, h, p) = place n (ns ++ (z ∷ [])) e in never _ (round k h p) m
        go false e = refl

  pub run-once : (ns : List ℕ) (x y z : ℕ) → Run cs x (ns ++ (z ∷ [])) y → member z ns ≡ false → Once (ns ++ (z ∷ []))
  unfolding member
  run-once [] x y z r m = (refl, tt)
  run-once (n ∷ ns) x y z r m =
      (first-once n ns x y z r m, run-once ns (free_link (cell_at cs x)) y z r.3 (or-false (eqb z n) (member z ns) m).1)

-- one cell more, as the code reads it
pub run-found : (s ns : List ℕ) (x y w : ℕ) {l : ℕ} → Run (unpacked s) x ns y → (y ≡ 0 → ⊥) → cell_in s y ≡ unpack_of w → is_free (unpack_of w) ≡ true
    → free_link (unpack_of w) ≡ l → Run (unpacked s) x (ns ++ (y ∷ [])) l
unfolding cell_in
run-found s ns x y w r z p f q =
    subst (λ k. Run (unpacked s) x (ns ++ (y ∷ [])) k) (ap free_link p ∙ q) (run_more (unpacked s) ns x y r z (ap is_free p ∙ f))

-- a run goes by its own cells alone
pub run-same : (A B : List Cell) (ns : List ℕ) (x y : ℕ) → Run A x ns y → ((k : ℕ) → member k ns ≡ true → cell_at B k ≡ cell_at A k) → Run B x ns y
unfolding member
run-same A B [] x y r f = r
run-same A B (n ∷ ns) x y r f =
    let e : cell_at B x ≡ cell_at A x = f x (simp (eq-eqb x n (sym r.0))) in (
      r.0,
      r.1,
      ap is_free e ∙ r.2,
      subst (λ l. Run B l ns y) (sym (ap free_link e))
          (run-same A B ns (free_link (cell_at A x)) y r.3 (λ k m. f k (either-member (eqb k n) (member k ns) m))),
    )
