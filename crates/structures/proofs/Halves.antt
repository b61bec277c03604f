-- As many cells can be taken as are free, and one: so where each of n cells in use has got a new one, there are no fewer than 2 n - 1 cells.
use Rattle.paper.proofs.Kit.{clash, ℕ, zero, suc, ◌+◌, ◌<◌, ◌≤◌, ◌≡◌, refl, sym, ap, ◌∙◌, Bool, true, false, List, [], ◌∷◌, ◌≢◌, arith}
use Rattle.paper.proofs.Kit.{cond, eqb, eqb-true, eqb-false, eq-eqb, length, set, length-set}
use Rattle.paper.proofs.Kit.{get_or-set_same, get_or-set_other}
use Rattle.paper.specs.declared.Refusal.{Refusal}
use Rattle.paper.specs.declared.Refusal.TheVariants.{NoFreeCell}
use Rattle.paper.specs.Cell.{State, Cell, free, word, term, process, is_free, word_in, free_link, empty_word, with_link, with_cells, cell_at}
use Rattle.paper.specs.Sound.{free_count}
use Rattle.paper.specs.Act.{Res, done, refused, ret, own, peek, put, take_as}
use Rattle.paper.specs.Walk.{member, take_all}
use Rattle.steps.proofs.Steps.{bind_ok, bind-no, then_ok, then-no, passes, fails}
use Rattle.structures.specs.Marks.{Once}
use Rattle.structures.proofs.Run.{either-member}

abbrev one : Bool → ℕ
one b = cond b 1 0

-- what a write changes of the count
count_set : (cs : List Cell) (k : ℕ) (y : Cell) → k < length cs → free_count (set cs k y) + one (is_free (cell_at cs k)) ≡ free_count cs + one (is_free y)
unfolding free_count
count_set [] k y h = absurd (omega arith)
count_set (x ∷ cs) zero y h = go (is_free x) (is_free y)
  where
    go : (a b : Bool) → (elim b as (λ _. ℕ) [ true ↦ suc (free_count cs) | false ↦ free_count cs ]) + one a
        ≡ (elim a as (λ _. ℕ) [ true ↦ suc (free_count cs) | false ↦ free_count cs ]) + one b
    go true true = refl
    go true false = omega arith
    go false true = omega arith
    go false false = refl
count_set (x ∷ cs) (suc k) y h = go (is_free x) (count_set cs k y (omega arith))
  where
    go : (a : Bool) → free_count (set cs k y) + one (is_free (cell_at cs k)) ≡ free_count cs + one (is_free y)
        → (elim a as (λ _. ℕ) [ true ↦ suc (free_count (set cs k y)) | false ↦ free_count (set cs k y) ]) + one (is_free (cell_at cs k))
        ≡ (elim a as (λ _. ℕ) [ true ↦ suc (free_count cs) | false ↦ free_count cs ]) + one (is_free y)
    go true e = omega arith
    go false e = e

count_most : (cs : List Cell) → free_count cs ≤ length cs
unfolding free_count
count_most [] = omega arith
count_most (x ∷ cs) = go (is_free x) (count_most cs)
  where
    go : (a : Bool) → free_count cs ≤ length cs → (elim a as (λ _. ℕ) [ true ↦ suc (free_count cs) | false ↦ free_count cs ]) ≤ suc (length cs)
    go true h = omega arith
    go false h = omega arith

-- past the end stands a free cell
in-use-inside : (cs : List Cell) (k : ℕ) → is_free (cell_at cs k) ≡ false → k < length cs
in-use-inside [] k e = clash cc
in-use-inside (x ∷ cs) zero e = omega arith
in-use-inside (x ∷ cs) (suc k) e = let h = in-use-inside cs k e in omega arith

-- cells in use, each once, and the free ones are no more than there are
pub apart : (ps : List ℕ) (cs : List Cell) → Once ps → ((p : ℕ) → member p ps ≡ true → is_free (cell_at cs p) ≡ false) → length ps + free_count cs ≤ length cs
unfolding member
apart [] cs o u = omega (arith, count_most cs)
apart (p ∷ ps) cs o u =
    let e : is_free (cell_at cs p) ≡ false = u p (rw (eq-eqb p p refl)) in
    let m : free_count (set cs p (free 0)) + one (is_free (cell_at cs p)) ≡ free_count cs + 1 = count_set cs p (free 0) (in-use-inside cs p e) in
    let h : length ps + free_count (set cs p (free 0)) ≤ length (set cs p (free 0)) = apart ps (set cs p (free 0)) o.1 others in
    let w : free_count (set cs p (free 0)) + 0 ≡ free_count cs + 1 = rw e at m in
    omega (arith, length-set cs p (free 0))
  where
    others : (q : ℕ) → member q ps ≡ true → is_free (cell_at (set cs p (free 0)) q) ≡ false
    others q b = go (eqb q p) refl
      where
        go : (c : Bool) → eqb q p ≡ c → is_free (cell_at (set cs p (free 0)) q) ≡ false
        go true e = let h : true ≡ false = sym b ∙ ap (λ k. member k ps) (eqb-true q p e) ∙ o.0 in clash cc
        go false e = ap is_free (get_or-set_other cs p q (free 0) (free 0) (eqb-false q p e)) ∙ u q (either-member (eqb q p) (member q ps) b)

-- taking a cell
abbrev empty : Cell
empty = word (empty_word 0)

abbrev first : List Cell → ℕ
first cs = (word_in (cell_at cs 3)).link

abbrev after : List Cell → List Cell
after cs = set (set cs 3 (word (with_link (word_in (cell_at cs 3)) (free_link (cell_at cs (first cs)))))) (first cs) empty

take_no : (s : State) → eqb (first s.cells) 0 ≡ true → take_as empty s ≡ refused NoFreeCell
unfolding take_as own
take_no s e = bind_ok _ _ _ _ _ refl (then-no _ _ _ _ (fails _ _ s e))

take-yes : (s : State) → eqb (first s.cells) 0 ≡ false → take_as empty s ≡ done (first s.cells) (with_cells s (after s.cells))
unfolding take_as own peek put ret
take-yes s e =
    bind_ok _ _ _ _ _ refl (then_ok _ _ _ _ _ (passes _ _ s e) (bind_ok _ _ _ _ _ refl (then_ok _ _ _ _ _ refl (then_ok _ _ _ _ _ refl refl))))

-- a cell that leads on is free, and H2 that has a LINK is a word
leads-free : (x : Cell) → free_link x ≢ 0 → is_free x ≡ true
leads-free (free l) z = refl
leads-free (word w) z = absurd (z refl)
leads-free (term t) z = absurd (z refl)
leads-free process z = absurd (z refl)

names-word : (x : Cell) → (word_in x).link ≢ 0 → is_free x ≡ false
names-word (free l) z = absurd (z refl)
names-word (word w) z = refl
names-word (term t) z = refl
names-word process z = refl

leads-inside : (cs : List Cell) (k : ℕ) → free_link (cell_at cs k) ≢ 0 → k < length cs
leads-inside [] k z = absurd (z refl)
leads-inside (x ∷ cs) zero z = omega arith
leads-inside (x ∷ cs) (suc k) z = let h = leads-inside cs k z in omega arith

-- where another can be taken after it, the cell that was taken was free
module _ (cs : List Cell) (z : first cs ≢ 0) (y : first (after cs) ≢ 0) where
  abbrev x : ℕ
  x = first cs

  abbrev h2 : Cell
  h2 = word (with_link (word_in (cell_at cs 3)) (free_link (cell_at cs x)))

  in-3 : 3 < length cs
  in-3 = in-use-inside cs 3 (names-word (cell_at cs 3) z)

  x≢3 : x ≢ 3
  x≢3 e =
      let h : x < length (set cs 3 h2) = omega (arith, in-3, length-set cs 3 h2, e) in
      y (ap (λ c. (word_in c).link) (ap (cell_at (after cs)) (sym e) ∙ get_or-set_same (set cs 3 h2) x empty (free 0) h))

  on-3 : first (after cs) ≡ free_link (cell_at cs x)
  on-3 =
      ap (λ c. (word_in c).link) (get_or-set_other (set cs 3 h2) x 3 empty (free 0) (λ e. x≢3 (sym e)) ∙ get_or-set_same cs 3 h2 (free 0) in-3)

  leads : free_link (cell_at cs x) ≢ 0
  leads e = y (on-3 ∙ e)

  one_less : free_count (after cs) + 1 ≡ free_count cs
  one_less =
      let a : free_count (set cs 3 h2) + one (is_free (cell_at cs 3)) ≡ free_count cs + 0 = count_set cs 3 h2 in-3 in
      let a₁ : free_count (set cs 3 h2) + 0 ≡ free_count cs + 0 = rw (names-word (cell_at cs 3) z) at a in
      let b : free_count (after cs) + one (is_free (cell_at (set cs 3 h2) x)) ≡ free_count (set cs 3 h2) + 0 =
      count_set (set cs 3 h2) x empty (omega (arith, leads-inside cs x leads, length-set cs 3 h2)) in
      let b₁ : free_count (after cs) + 1 ≡ free_count (set cs 3 h2) + 0 =
      rw (get_or-set_other cs 3 x h2 (free 0) x≢3, leads-free (cell_at cs x) leads) at b in
      omega arith

-- so many cells can be taken
abbrev pub Took : List ℕ → State → Type 0
Took os s = (ns : List ℕ) × (t : State) × (take_all os s ≡ done ns t)

took-rest : (o : ℕ) (os : List ℕ) (s : State) → Took (o ∷ os) s → (first s.cells ≢ 0) × Took os (with_cells s (after s.cells))
unfolding take_all
took-rest o os s (ns, t, e) = go (eqb (first s.cells) 0) refl
  where
    rest : State
    rest = with_cells s (after s.cells)

    last : eqb (first s.cells) 0 ≡ false → (r : Res State Refusal (List ℕ)) → take_all os rest ≡ r → Took os rest
    last q (done ms u) p = (ms, u, p)
    last q (refused f) p =
        let h : refused f ≡ done ns t = sym (bind_ok (take_as empty) _ s rest (first s.cells) (take-yes s q) (bind-no _ _ _ f p)) ∙ e in
        clash cc

    go : (b : Bool) → eqb (first s.cells) 0 ≡ b → (first s.cells ≢ 0) × Took os rest
    go true q = let h : refused NoFreeCell ≡ done ns t = sym (bind-no _ _ s _ (take_no s q)) ∙ e in clash cc
    go false q = (eqb-false (first s.cells) 0 q, last q (take_all os rest) refl)

pub most-taken : (os : List ℕ) (s : State) → Took os s → length os ≤ free_count s.cells + 1
most-taken [] s e = omega arith
most-taken (o ∷ []) s e = omega arith
most-taken (o ∷ p ∷ os) s e =
    let (z, r) = took-rest o (p ∷ os) s e in
    let (y, _) = took-rest p os (with_cells s (after s.cells)) r in
    omega (arith, most-taken (p ∷ os) (with_cells s (after s.cells)) r, one_less s.cells z y)
