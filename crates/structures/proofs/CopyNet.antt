-- Taking a new cell for each old one and then copying is `copy_into`, where the free list goes over new cells, each once: the empty words
-- that stand in them in between are written over, and no old cell is one of them.
use Rattle.paper.proofs.Kit.{clash, ℕ, zero, suc, ◌<◌, ◌≡◌, refl, sym, ap, ◌∙◌, subst, Bool, true, false, List, [], ◌∷◌, map, ◌≢◌, arith, eqb-true}
use Rattle.paper.proofs.Kit.{eqb-false, ltb-true, ltb-false, ne_eqb, eq-eqb, eqb, ltb, length, set, length-set, List·getD-eq-default, get_or-set_same}
use Rattle.paper.proofs.Kit.{get_or-set_other, set-set, set_comm, set-get_or, set_out, ext_get_or}
use Rattle.std.specs.Prelude.{Result}
use Rattle.paper.specs.declared.Refusal.{Refusal}
use Rattle.paper.specs.Cell.{State, Word, Cell, free, word, term, process, is_free, word_in, free_link, empty_word, with_link, with_cells, cell_at}
use Rattle.paper.specs.Act.{Res, done, ◌>>=◌, ◌>>◌, ret, own, peek, put, take_as}
use Rattle.paper.specs.Walk.{member, take_all, renamed, copied, copy_all}
use Rattle.paper.proofs.SoundStore.{never, or-false}
use Rattle.cells.specs.Bridge.{Rest, state_of, unpacked}
use Rattle.steps.specs.Follows.{Follows}
use Rattle.steps.proofs.Steps.{bind_ok, then_ok, passes}
use Rattle.steps.proofs.Sequence.{alike-here}
use Rattle.undo.specs.Did.{lent}
use Rattle.structures.specs.Marks.{Once}
use Rattle.structures.specs.Net.{copy_of, copy_into}
use Rattle.structures.specs.Copies.{Run}
use Rattle.structures.proofs.Run.{either-member, run-free, run-same}

-- what copies leave
pasted : (ℕ → ℕ) → List Cell → List ℕ → List Cell
pasted new cs [] = cs
pasted new cs (o ∷ os) = pasted new (set cs (new o) (copied new (cell_at cs o))) os

paste-is : (new : ℕ → ℕ) (os : List ℕ) (s : State) → copy_all new os (map new os) s ≡ done tt (with_cells s (pasted new s.cells os))
unfolding pasted copy_all peek put ret ◌>>=◌ ◌>>◌
paste-is new [] s = refl
paste-is new (o ∷ os) s = paste-is new os (with_cells s (set s.cells (new o) (copied new (cell_at s.cells o))))

-- what taking leaves, but for H2
abbrev empty : Cell
empty = word (empty_word 0)

blanked : List Cell → List ℕ → List Cell
blanked cs [] = cs
blanked cs (n ∷ ns) = blanked (set cs n empty) ns

over : (ns : List ℕ) (cs : List Cell) (x z : Cell) → set (blanked (set cs 3 x) ns) 3 z ≡ set (blanked cs ns) 3 z
unfolding blanked
over [] cs x z = set-set cs 3 x z
over (c ∷ ns) cs x z = go (eqb c 3) refl (over ns (set cs c empty) x z)
  where
    go : (b : Bool) → eqb c 3 ≡ b → set (blanked (set (set cs c empty) 3 x) ns) 3 z ≡ set (blanked (set cs c empty) ns) 3 z
        → set (blanked (set (set cs 3 x) c empty) ns) 3 z ≡ set (blanked (set cs c empty) ns) 3 z
    go true e k =
        ap (λ (t : List Cell). set (blanked t ns) 3 z)
        (ap (λ (d : ℕ). set (set cs 3 x) d empty) (eqb-true c 3 e) ∙ set-set cs 3 x empty ∙ ap (λ (d : ℕ). set cs d empty) (sym (eqb-true c 3 e)))
    go false e k = ap (λ (t : List Cell). set (blanked t ns) 3 z) (sym (set_comm cs c 3 empty x (eqb-false c 3 e))) ∙ k

blank-length : (ns : List ℕ) (cs : List Cell) → length (blanked cs ns) ≡ length cs
unfolding blanked
blank-length [] cs = refl
blank-length (n ∷ ns) cs = blank-length ns (set cs n empty) ∙ length-set cs n empty

blank-at : (ns : List ℕ) (cs : List Cell) (k : ℕ) → member k ns ≡ false → cell_at (blanked cs ns) k ≡ cell_at cs k
unfolding blanked member
blank-at [] cs k m = refl
blank-at (n ∷ ns) cs k m =
    let (a, b) = or-false (eqb k n) (member k ns) m in
    blank-at ns (set cs n empty) k b ∙ get_or-set_other cs n k empty (free 0) (eqb-false k n a)

-- two stores that agree but for the cells still to be filled become one
set-agree : (A B : List Cell) (n : ℕ) (z : Cell) → length A ≡ length B → cell_at (set A n z) n ≡ cell_at (set B n z) n
set-agree A B n z l = go (ltb n (length A)) refl
  where
    out : (C : List Cell) → length C ≡ length A → ltb n (length A) ≡ false → cell_at (set C n z) n ≡ free 0
    out C e p =
        let h = ltb-false n (length A) p in
        ap (λ (t : List Cell). cell_at t n) (set_out C n z (omega arith)) ∙ List·getD-eq-default C (free 0) {n = n} (omega arith)

    go : (b : Bool) → ltb n (length A) ≡ b → cell_at (set A n z) n ≡ cell_at (set B n z) n
    go true e = let h = ltb-true n (length A) e in get_or-set_same A n z (free 0) h ∙ sym (get_or-set_same B n z (free 0) (omega arith))
    go false e = out A refl e ∙ sym (out B (sym l) e)

same-pasted : (new : ℕ → ℕ) (os : List ℕ) (A B : List Cell) → length A ≡ length B
    → ((k : ℕ) → member k (map new os) ≡ false → cell_at A k ≡ cell_at B k)
    → ((o : ℕ) → member o os ≡ true → member o (map new os) ≡ false)
    → pasted new A os ≡ pasted new B os
unfolding pasted member
same-pasted new [] A B l f g = ext_get_or (free 0) A B l (λ i h. f i refl)
same-pasted new (o ∷ os) A B l f g =
    let z : Cell = copied new (cell_at A o) in
    let e : z ≡ copied new (cell_at B o) = ap (copied new) (f o (g o (simp (eq-eqb o o refl)))) in
    same-pasted new os (set A (new o) z) (set B (new o) z) (simp length-set l) (λ k m. go k (eqb k (new o)) refl m)
    (λ k m. (or-false (eqb k (new o)) (member k (map new os)) (g k (either-member (eqb k o) (member k os) m))).1)
    ∙ ap (λ (y : Cell). pasted new (set B (new o) y) os) e
  where
    go : (k : ℕ) (b : Bool) → eqb k (new o) ≡ b → member k (map new os) ≡ false
        → cell_at (set A (new o) (copied new (cell_at A o))) k ≡ cell_at (set B (new o) (copied new (cell_at A o))) k
    go k true e m = rw (eqb-true k (new o) e) (set-agree A B (new o) (copied new (cell_at A o)) l)
    go k false e m =
        let n = eqb-false k (new o) e in
        get_or-set_other A (new o) k (copied new (cell_at A o)) (free 0) n ∙ f k (rw (e, m))
        ∙ sym (get_or-set_other B (new o) k (copied new (cell_at A o)) (free 0) n)

in-range : (cs : List Cell) (n : ℕ) (v : Word) → cell_at cs n ≡ word v → n < length cs
in-range [] n v e = clash cc
in-range (y ∷ cs) zero v e = omega arith
in-range (y ∷ cs) (suc n) v e = let h = in-range cs n v e in omega arith

-- one cell is taken
module _ (s : State) (h : Word) (x : ℕ) (at-3 : cell_at s.cells 3 ≡ word (with_link h x)) (x0 : x ≡ 0 → ⊥) (f : is_free (cell_at s.cells x) ≡ true) where
  abbrev l : ℕ
  l = free_link (cell_at s.cells x)

  taken : List Cell
  taken = set (set s.cells 3 (word (with_link h l))) x empty

  take-one : take_as empty s ≡ done x (with_cells s taken)
  unfolding taken take_as own peek put ret
  take-one =
      bind_ok _ _ _ _ _ (ap (λ (y : Cell). done (word_in y) s) at-3)
      (then_ok _ _ _ _ _ (passes _ _ s (ne_eqb x 0 x0)) (bind_ok _ _ _ _ _ refl (then_ok _ _ _ _ _ refl (then_ok _ _ _ _ _ refl refl))))

  x≢3 : x ≢ 3
  x≢3 e = never _ f (ap is_free (ap (cell_at s.cells) e ∙ at-3))

  taken-3 : cell_at taken 3 ≡ word (with_link h l)
  unfolding taken
  taken-3 =
      get_or-set_other (set s.cells 3 (word (with_link h l))) x 3 empty (free 0) (λ e. x≢3 (sym e))
      ∙ get_or-set_same s.cells 3 (word (with_link h l)) (free 0) (in-range s.cells 3 (with_link h x) at-3)

  taken_at : (k : ℕ) → k ≢ x → k ≢ 3 → cell_at taken k ≡ cell_at s.cells k
  unfolding taken
  taken_at k p q = get_or-set_other (set s.cells 3 (word (with_link h l))) x k empty (free 0) p ∙ get_or-set_other s.cells 3 k (word (with_link h l)) (free 0) q

  -- its place in the order in which they are written does not matter
  taken-first : (ns : List ℕ) (y n : ℕ) → n ≡ x
      → ◌≡◌ {A = Res State Refusal (List ℕ)} (done (x ∷ ns) (with_cells s (set (blanked taken ns) 3 (word (with_link h y)))))
      (done (n ∷ ns) (with_cells s (set (blanked (set s.cells n empty) ns) 3 (word (with_link h y)))))
  unfolding taken
  taken-first ns y n e =
      let w : Cell = word (with_link h y) in
      ap (λ (u : List Cell). done (x ∷ ns) (with_cells s u))
      (ap (λ (t : List Cell). set (blanked t ns) 3 w) (sym (set_comm s.cells x 3 empty (word (with_link h l)) x≢3))
      ∙ over ns (set s.cells x empty) (word (with_link h l)) w)
      ∙ ap (λ (d : ℕ). done (d ∷ ns) (with_cells s (set (blanked (set s.cells d empty) ns) 3 w))) (sym e)

-- each cell of a run is taken
take-is : (new : ℕ → ℕ) (os : List ℕ) (s : State) (h : Word) (x y : ℕ) → cell_at s.cells 3 ≡ word (with_link h x)
    → Run s.cells x (map new os) y → Once (map new os)
    → take_all os s ≡ done (map new os) (with_cells s (set (blanked s.cells (map new os)) 3 (word (with_link h y))))
unfolding take_all blanked ret
take-is new [] s h x y at-3 r o =
    ap (λ (t : List Cell). done [] (with_cells s t))
    (sym (ap (λ (z : Cell). set s.cells 3 z) (sym (at-3 ∙ ap (λ k. word (with_link h k)) r)) ∙ set-get_or s.cells 3 (free 0)))
take-is new (c ∷ os) s h x y at-3 r o =
    let ns : List ℕ = map new os in
    let l : ℕ = free_link (cell_at s.cells x) in
    let u : List Cell = taken s h x at-3 r.1 r.2 in
    let apart : (k : ℕ) → member k ns ≡ true → cell_at u k ≡ cell_at s.cells k = λ k m.
    taken_at s h x at-3 r.1 r.2 k (λ e. never _ m (subst (λ d. member d ns ≡ false) (r.0 ∙ sym e) o.0))
    (λ e. never _ m (subst (λ d. member d ns ≡ false) (sym e) (run-free s.cells ns l y 3 r.3 (ap is_free at-3)))) in
    bind_ok _ _ _ _ _ (take-one s h x at-3 r.1 r.2)
    (bind_ok _ _ _ _ _ (take-is new os (with_cells s u) h l y (taken-3 s h x at-3 r.1 r.2) (run-same s.cells u ns l y r.3 apart) o.1)
    (taken-first s h x at-3 r.1 r.2 ns y (new c) r.0))

-- a cell with a LINK is a word
linked-word : (x : Cell) → ((word_in x).link ≡ 0 → ⊥) → x ≡ word (word_in x)
linked-word (word w) h = refl
linked-word (free l) h = absurd (h refl)
linked-word (term t) h = absurd (h refl)
linked-word process h = absurd (h refl)

abbrev top : State → Word
top s = word_in (cell_at s.cells 3)

-- the two blocks
module _ (new : ℕ → ℕ) (olds : List ℕ) (s : State) (y c : ℕ) where
  into : List Cell
  into = set s.cells 3 (word (with_link (top s) y))

  into-is : copy_into new y c olds s ≡ done (new c) (with_cells s (pasted new into olds))
  unfolding copy_into own put into ret
  into-is = bind_ok _ _ _ _ _ refl (then_ok _ _ _ _ _ refl (then_ok _ _ _ _ _ (paste-is new olds (with_cells s into)) refl))

  module _ (named : renamed olds (map new olds) ≡ new) (at-3 : cell_at s.cells 3 ≡ word (top s)) (r : Run s.cells (top s).link (map new olds) y)
      (o : Once (map new olds)) (used : (k : ℕ) → member k olds ≡ true → is_free (cell_at s.cells k) ≡ false) where
    ready : List Cell
    ready = set (blanked s.cells (map new olds)) 3 (word (with_link (top s) y))

    of_is : copy_of c olds s ≡ done (new c) (with_cells s (pasted new ready olds))
    unfolding copy_of ready ret
    of_is =
        bind_ok _ _ _ _ _ (take-is new olds s (top s) (top s).link y at-3 r o)
        (then_ok _ _ _ _ _ (ap (λ f. copy_all f olds (map new olds) (with_cells s ready)) named ∙ paste-is new olds (with_cells s ready))
        (ap (λ f. done (f c) (with_cells s (pasted new ready olds))) named))

    agree : (k : ℕ) → member k (map new olds) ≡ false → cell_at ready k ≡ cell_at into k
    unfolding ready into
    agree k m = go (eqb k 3) refl
      where
        go : (b : Bool) → eqb k 3 ≡ b
            → cell_at (set (blanked s.cells (map new olds)) 3 (word (with_link (top s) y))) k ≡ cell_at (set s.cells 3 (word (with_link (top s) y))) k
        go true e =
            rw (eqb-true k 3 e)
            (set-agree (blanked s.cells (map new olds)) s.cells 3 (word (with_link (top s) y)) (blank-length (map new olds) s.cells))
        go false e =
            let n = eqb-false k 3 e in
            get_or-set_other (blanked s.cells (map new olds)) 3 k (word (with_link (top s) y)) (free 0) n ∙ blank-at (map new olds) s.cells k m
            ∙ sym (get_or-set_other s.cells 3 k (word (with_link (top s) y)) (free 0) n)

    sized : length ready ≡ length into
    unfolding ready into
    sized = simp length-set (blank-length (map new olds) s.cells)

    one : pasted new ready olds ≡ pasted new into olds
    one = same-pasted new olds ready into sized agree (λ k m. run-free s.cells (map new olds) (top s).link y k r (used k m))

    both : copy_of c olds s ≡ copy_into new y c olds s
    both = of_is ∙ ap (λ (t : List Cell). done (new c) (with_cells s t)) one ∙ sym into-is

copy-net : (new : ℕ → ℕ) (olds : List ℕ) (s : State) (y c : ℕ) → 0 < length olds → renamed olds (map new olds) ≡ new
    → Run s.cells (top s).link (map new olds) y → Once (map new olds) → ((k : ℕ) → member k olds ≡ true → is_free (cell_at s.cells k) ≡ false)
    → copy_of c olds s ≡ copy_into new y c olds s
copy-net new [] s y c h n r o u = absurd (omega arith)
copy-net new (d ∷ os) s y c h n r o u = both new (d ∷ os) s y c n (linked-word (cell_at s.cells 3) r.1) r o u

-- carried to the numbers
pub copy-into : {K : Rest → Type 0} {k : ℕ} (new : ℕ → ℕ) (olds : List ℕ) (y c : ℕ) {s l : List ℕ} {z : List ℕ × List ℕ} {e : Result ℕ Refusal}
    → 0 < length olds → renamed olds (map new olds) ≡ new
    → Run (unpacked s) (word_in (cell_at (unpacked s) 3)).link (map new olds) y → Once (map new olds)
    → ((k : ℕ) → member k olds ≡ true → is_free (cell_at (unpacked s) k) ≡ false)
    → Follows lent K k (copy_into new y c olds) (s, l) z e → Follows lent K k (copy_of c olds) (s, l) z e
copy-into new olds y c {s} h n r o u d = alike-here (λ e k. copy-net new olds (state_of e s) y c h n r o u) d
