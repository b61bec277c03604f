use Rattle.paper.proofs.Kit.{sym, ◌∙◌, arith, eqb-true, eqb-false}
use Rattle.steps.proofs.Sequence.{bind, most}
use Rattle.undo.proofs.Lines.{looks, puts, once}
use Rattle.structures.specs.Net.{free_all}
use Rattle.structures.proofs.Loops.{release-more, release-end}
use Rattle.structures.proofs.Whole.{released-none, released}
use Rattle.structures.proofs.frees.release_all.Goals as goal

pub returns-then-is_empty : goal.returns-then-is_empty
returns-then-is_empty c = released-none _ (eqb-true _ _ (sym c.is_empty.ensures ∙ c.if-is_empty.true))

pub loop-i-preserved : goal.loop-i-preserved
loop-i-preserved c =
    let l = c.loop-i in
    release-more _ _ _ _ l.invariant (omega arith) (omega arith) (once _ _ (puts _ c.of_free.ensures c.put.ensures))

pub returns : goal.returns
unfolding free_all
returns c =
    released _ (eqb-false _ _ (sym c.is_empty.ensures ∙ c.if-is_empty.false)) (omega (arith, c.requires))
    (most _ (omega arith)
    (looks _ c.own-h.ensures
    (bind _ (release-end _ _ _ _ c.loop-i.invariant (omega arith)) (puts _ c.with_link.ensures c.put-2.ensures))))
