use Rattle.steps.proofs.Sequence.{yes, else, give}
use Rattle.undo.proofs.Lines.{looks}
use Rattle.paper.proofs.Kit.{eq-eqb, ne_eqb}
use Rattle.paper.specs.Cycle.{branch}
use Rattle.cycle.proofs.control.branch.Goals as goal

pub returns-then-h-eq-J3 : goal.returns-then-h-eq-J3
unfolding branch
returns-then-h-eq-J3 c =
    looks _ c.own-h.ensures (yes _ (eq-eqb _ _ c.if-h-eq-J3.true) c.go_to.ensures)

pub returns : goal.returns
unfolding branch
returns c = looks _ c.own-h.ensures (else _ (ne_eqb _ _ c.if-h-eq-J3.false) give)
