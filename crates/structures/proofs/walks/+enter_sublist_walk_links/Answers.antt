use Rattle.paper.proofs.Kit.{ℕ, ◌<◌, ◌≤◌, ◌≡◌, refl, sym, ◌∙◌, Bool, true, false, true≢false, List, ◌∷◌, arith, length}
use Rattle.std.specs.Prelude.{Result, Ok}
use Rattle.paper.specs.declared.Refusal.{Refusal}
use Rattle.paper.specs.Limits.{deepest}
use Rattle.paper.specs.Cell.{Cell, word_in}
use Rattle.paper.specs.Walk.{list_named}
use Rattle.cells.specs.Layout.{unpack_of, word_of}
use Rattle.cells.proofs.Laws.{link-in}
use Rattle.undo.specs.Did.{Always}
use Rattle.steps.proofs.Sequence.{same_err}
use Rattle.structures.specs.Marks.{back, unmet}
use Rattle.structures.specs.Walks.{Gets, Holds, Visits, Ends, met_in, Arrives, arrives, list_of, sublist}
use Rattle.structures.proofs.Leads.{leads-none, leads-end, leads-more, known}
use Rattle.structures.proofs.Meeting.{New, s-arrives}
use Rattle.structures.proofs.Holding.{holds-only, fits, listed-held, listed-less, listed-more}
use Rattle.structures.proofs.Turn.{list-in, list-none, list-is, sublist-none, sublist-in, sublist-as, meet-refused, inner-refused, walk_end, walk-on}
use Rattle.structures.proofs.walks.+enter_sublist_walk_links.Goals as goal

-- a cell was met: it is new
module _ {cells order marks : List ℕ} {n : ℕ} (b : Bool) (depth c : ℕ) (x : ℕ) (h : Holds cells order marks n) (a : Arrives cells marks b depth c (Ok x)) where
  met : Gets Always (arrives b depth c (back n order)) cells (Ok (unpack_of x))
  met = a _ h.marked

  new : (b ≡ true → depth ≤ deepest) → New cells c (back n order) × (depth ≤ deepest)
  new f = let k = known _ _ _ _ _ (s-arrives _ _ _ _ _) met in (k.0, either b f k.1)
    where
      either : {P : Type 0} (b : Bool) → (b ≡ true → P) → (b ≡ false → P) → P
      either true f g = f refl
      either false f g = g refl

-- and the list that it names was entered
inner : {cells seen seen' marks order' marks' : List ℕ} {r : Result ℕ Refusal} (depth w c : ℕ) (x : Cell) → word_in x ≡ word_of w → seen' ≡ c ∷ seen
    → Ends (λ f. Visits (sublist depth (list_of w) f) cells seen') cells marks order' marks' r
    → (k : ℕ) → unmet (length cells) marks < k → Visits (sublist depth (list_named x) k) cells (c ∷ seen) (met_in order' r)
inner depth w c x p q e k h = sublist-as _ _ _ k (list-in x w p) q (e.says k h)

pub enter_sublist-returns-then-w-ne-LOCAL : goal.enter_sublist-returns-then-w-ne-LOCAL
enter_sublist-returns-then-w-ne-LOCAL t c =
    record { says = λ f h. sublist-none _ _ _ f (list-none _ c.if-w-ne-LOCAL.true); left = (c.requires.0, omega arith) }

pub enter_sublist-returns-then-head-eq0 : goal.enter_sublist-returns-then-head-eq0
enter_sublist-returns-then-head-eq0 t c = record {
  says = λ f h. sublist-none _ _ _ f (list-is _ c.if-w-ne-LOCAL.false ∙ c.if-head-eq0.true);
  left = (c.requires.0, omega arith);
}

pub enter_sublist-returns : goal.enter_sublist-returns
enter_sublist-returns t c =
    let e = c.walk_links.ensures in
    record {
      says = λ f h. sublist-as _ _ _ f (sym (list-is _ c.if-w-ne-LOCAL.false)) refl (sublist-in _ _ _ f c.if-head-eq0.false (e.says f h));
      left = e.left;
    }

pub walk_links-loop-x-init : goal.walk_links-loop-x-init
walk_links-loop-x-init t c = (c.requires.0, omega arith, (λ e. absurd (true≢false (sym e))), leads-none _ _)

pub walk_links-returns-in-Err : goal.walk_links-returns-in-Err
walk_links-returns-in-Err t c =
    let l = c.loop-x in
    record {
      says = leads-end l.invariant.3 _ (λ k h. meet-refused _ _ _ _ k (c.in-Err.ensures _ l.invariant.0.marked));
      left = c.clear.ensures;
    }

pub walk_links-enlist-requires : goal.walk_links-enlist-requires
walk_links-enlist-requires t c =
    let i = c.loop-x.invariant in
    let w = new _ _ _ _ i.0 c.in-Ok.ensures i.2 in
    fits i.0 _ w.0

pub walk_links-enter_sublist-requires : goal.walk_links-enter_sublist-requires
walk_links-enter_sublist-requires t c =
    let i = c.loop-x.invariant in
    let w = new _ _ _ _ i.0 c.in-Ok.ensures i.2 in
    (omega arith, (listed-held i.0 w.0 c.enlist.ensures, w.1))

pub walk_links-returns-in_err-n : goal.walk_links-returns-in_err-n
walk_links-returns-in_err-n t c =
    let l = c.loop-x in
    let i = l.invariant in
    let w = new _ _ _ _ i.0 c.in-Ok.ensures i.2 in
    let x = unpack_of c.in-Ok.x in
    let f = listed-less i.0 w.0 c.enlist.ensures in
    let e = c.in_err-n.ensures in
    rw (same_err c.from_residual.ensures.1) (record {
      says = leads-end i.3 _
          (λ k h. inner-refused _ _ _ _ k (met _ _ _ _ i.0 c.in-Ok.ensures)
          (inner _ _ _ x c.word_in-w.ensures (listed-more i.0 w.0 c.enlist.ensures) e k (omega arith)));
      left = e.left;
    })

pub walk_links-returns-then-c-eq0 : goal.walk_links-returns-then-c-eq0
walk_links-returns-then-c-eq0 t c =
    let i = c.loop-x.invariant in
    let w = new _ _ _ _ i.0 c.in-Ok.ensures i.2 in
    let x = unpack_of c.in-Ok.x in
    let f = listed-less i.0 w.0 c.enlist.ensures in
    let e = c.in_ok-n.ensures in
    record {
      says = leads-end i.3 _
          (λ k h. walk_end _ _ _ _ k (met _ _ _ _ i.0 c.in-Ok.ensures) (link-in x _ c.word_in-w.ensures)
          (inner _ _ _ x c.word_in-w.ensures (listed-more i.0 w.0 c.enlist.ensures) e k (omega arith)) c.if-c-eq0.true);
      left = (e.left.0, omega (arith, e.left.1, i.1));
    }

pub walk_links-loop-x-smaller : goal.walk_links-loop-x-smaller
walk_links-loop-x-smaller t c =
    let i = c.loop-x.invariant in
    let w = new _ _ _ _ i.0 c.in-Ok.ensures i.2 in
    let e = c.in_ok-n.ensures in
    omega (arith, e.left.1, listed-less i.0 w.0 c.enlist.ensures)

pub walk_links-loop-x-preserved : goal.walk_links-loop-x-preserved
walk_links-loop-x-preserved t c =
    let i = c.loop-x.invariant in
    let w = new _ _ _ _ i.0 c.in-Ok.ensures i.2 in
    let x = unpack_of c.in-Ok.x in
    let f = listed-less i.0 w.0 c.enlist.ensures in
    let e = c.in_ok-n.ensures in
    let d = e.left in (
      d.0,
      omega (arith, d.1, i.1),
      (λ q. w.1),
      leads-more i.3 _ _ (omega (arith, d.1))
          (λ k h r g. walk-on _ _ _ _ k (met _ _ _ _ i.0 c.in-Ok.ensures) (link-in x _ c.word_in-w.ensures)
          (inner _ _ _ x c.word_in-w.ensures (listed-more i.0 w.0 c.enlist.ensures) e k (omega arith)) c.if-c-eq0.false g),
    )

pub walk_links-clear-requires : goal.walk_links-clear-requires
walk_links-clear-requires t c = holds-only c.loop-x.invariant.0
