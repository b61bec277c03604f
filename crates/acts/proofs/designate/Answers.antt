use Rattle.paper.proofs.Kit.{eq-eqb, ne_eqb}
use Rattle.paper.specs.Act.{designate}
use Rattle.steps.proofs.Sequence.{any, seen, taken, skipped, otherwise}
use Rattle.undo.proofs.Leaves.{naming}
use Rattle.acts.proofs.designate.Goals as goal

pub returns-then-q-eq0 : goal.returns-then-q-eq0
unfolding designate
returns-then-q-eq0 c = taken _ _ (eq-eqb _ _ c.if-q-eq0.true) (seen (naming _ _ _ c.name_of.ensures))

pub returns-then-q-eq1 : goal.returns-then-q-eq1
unfolding designate
returns-then-q-eq1 c = skipped _ _ _ (ne_eqb _ _ c.if-q-eq0.false) (taken _ _ (eq-eqb _ _ c.if-q-eq1.true) (any c.symbol_in.ensures))

pub returns : goal.returns
unfolding designate
returns c = skipped _ _ _ (ne_eqb _ _ c.if-q-eq0.false) (skipped _ _ _ (ne_eqb _ _ c.if-q-eq1.false) (otherwise (any c.symbol_in_that.ensures)))
