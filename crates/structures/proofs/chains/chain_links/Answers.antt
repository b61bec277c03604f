use Rattle.paper.proofs.Kit.{ℕ, suc, ◌%◌, sym, subst, List, arith}
use Rattle.std.specs.Prelude.{Ok}
use Rattle.paper.specs.Walk.{chain}
use Rattle.cells.specs.Layout.{word_of}
use Rattle.undo.specs.Did.{Always}
use Rattle.structures.specs.Marks.{back}
use Rattle.structures.specs.Walks.{Gets, Holds, Chains, chains}
use Rattle.structures.proofs.Leads.{leads-end, leads-more, known}
use Rattle.structures.proofs.Meeting.{New, s-chains}
use Rattle.structures.proofs.Holding.{holds-only, fits, listed-held, listed-less, listed-more}
use Rattle.structures.proofs.Turn.{chain-refused, chain-end, chain-on}
use Rattle.structures.proofs.chains.chain_links.Goals as goal

-- a cell was met: it is new
module _ {cells order marks : List ℕ} {n : ℕ} (c x : ℕ) (h : Holds cells order marks n) (a : Chains cells marks c (Ok x)) where
  met : Gets Always (chains c (back n order)) cells (Ok (word_of x))
  met = a _ h.marked

  new : New cells c (back n order)
  new = known _ _ _ _ _ (s-chains _ _ _) met

pub returns-in-Err : goal.returns-in-Err
returns-in-Err c =
    let l = c.loop-w in
    record {
      says = leads-end l.invariant.2 _ (λ k h. chain-refused _ _ k (c.in-Err.ensures _ l.invariant.0.marked));
      left = c.clear.ensures;
    }

pub enlist-requires : goal.enlist-requires
enlist-requires c =
    let i = c.loop-w.invariant.0 in
    let w = new _ _ i c.in-Ok.ensures in
    fits i _ w

pub returns-then-c-eq0 : goal.returns-then-c-eq0
returns-then-c-eq0 c =
    let l = c.loop-w in
    let i = l.invariant.0 in
    let w = new _ _ i c.in-Ok.ensures in
    let f = listed-less i w c.enlist.ensures in
    record {
      says = leads-end l.invariant.2 _
          (λ k h. subst (λ v. Gets Always (chain (suc k) l.c (back l.n l.order)) c.args.cells.now (Ok v)) (sym (listed-more i w c.enlist.ensures))
          (chain-end _ _ k (met _ _ i c.in-Ok.ensures) c.if-c-eq0.true));
      left = (listed-held i w c.enlist.ensures, omega (arith, l.invariant.1));
    }

pub loop-w-smaller : goal.loop-w-smaller
loop-w-smaller c =
    let i = c.loop-w.invariant.0 in
    omega (arith, listed-less i (new _ _ i c.in-Ok.ensures) c.enlist.ensures)

pub loop-w-preserved : goal.loop-w-preserved
loop-w-preserved c =
    let l = c.loop-w in
    let i = l.invariant.0 in
    let w = new _ _ i c.in-Ok.ensures in
    let f = listed-less i w c.enlist.ensures in (
      listed-held i w c.enlist.ensures,
      omega (arith, l.invariant.1),
      leads-more l.invariant.2 _ _ (omega arith)
          (λ k h r d. chain-on _ _ k (met _ _ i c.in-Ok.ensures) c.if-c-eq0.false
          (subst (λ t. Gets Always (chain k (c.in-Ok.w % 65536) t) c.args.cells.now r) (listed-more i w c.enlist.ensures) d)),
    )

pub clear-requires : goal.clear-requires
clear-requires c = holds-only c.loop-w.invariant.0
