use Rattle.paper.proofs.Kit.{ap, arith, eq-eqb, ne_eqb}
use Rattle.paper.specs.Process.{at_end, J60}
use Rattle.undo.proofs.Auto.{lines}
use Rattle.steps.proofs.Sequence.{same_err, any, any-sees, yes, else, most, alike}
use Rattle.undo.proofs.Lines.{looks, reads}
use Rattle.lists.proofs.j60.Goals as goal

pub returns-in_err-w : goal.returns-in_err-w
unfolding J60
returns-in_err-w c = let e = c.in_err-w.ensures in rw (same_err c.from_residual.ensures.1) (search lines depth 20)

pub returns-then-w-eq0 : goal.returns-then-w-eq0
unfolding J60
returns-then-w-eq0 c =
    looks _ (any-sees c.own-w0.ensures) (reads _ (any c.in_ok-w.ensures) (yes _ (eq-eqb _ _ c.if-w-eq0.true)
    (most 4 (omega arith) (alike (ap at_end c.symbol.ensures) c.at_end.ensures))))

pub returns : goal.returns
unfolding J60
returns c =
    looks _ (any-sees c.own-w0.ensures) (reads _ (any c.in_ok-w.ensures) (else _ (ne_eqb _ _ c.if-w-eq0.false) c.next_cell.ensures))
