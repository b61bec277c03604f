use Rattle.paper.proofs.Kit.{arith, eq-eqb, ne_eqb}
use Rattle.paper.specs.Process.{J68}
use Rattle.acts.proofs.Auto.{acting}
use Rattle.steps.proofs.Sequence.{same_err, any, any-sees, test, yes, else, most}
use Rattle.undo.proofs.Lines.{looks, reads}
use Rattle.lists.proofs.j68.Goals as goal

pub returns-in_err-w : goal.returns-in_err-w
unfolding J68
returns-in_err-w c = let e = c.in_err-w.ensures in rw (same_err c.from_residual.ensures.1) (search acting depth 20)

pub returns-in_err-refuse_if : goal.returns-in_err-refuse_if
unfolding J68
returns-in_err-refuse_if c =
    let h0 = c.in_ok-w.ensures in
    let e = c.in_err-refuse_if.ensures in
    rw (same_err c.from_residual-in_err-refuse_if.ensures.1) (search acting depth 20)

pub returns-in_err-not_own : goal.returns-in_err-not_own
unfolding J68
returns-in_err-not_own c =
    let h0 = c.in_ok-w.ensures in
    let h1 = c.in_ok-refuse_if.ensures in
    let e = c.in_err-not_own.ensures in
    rw (same_err c.from_residual-in_err-not_own.ensures.1) (search acting depth 20)

pub returns-then-l-eq0 : goal.returns-then-l-eq0
unfolding J68
returns-then-l-eq0 c =
    looks _ (any-sees c.own-w0.ensures) (reads _ (any c.in_ok-w.ensures) (test c.in_ok-refuse_if.ensures (test c.in_ok-not_own.ensures
    (yes _ (eq-eqb _ _ c.if-l-eq0.true) (most 3 (omega arith) c.delete_last.ensures)))))

pub returns : goal.returns
unfolding J68
returns c =
    looks _ (any-sees c.own-w0.ensures) (reads _ (any c.in_ok-w.ensures) (test c.in_ok-refuse_if.ensures (test c.in_ok-not_own.ensures
    (else _ (ne_eqb _ _ c.if-l-eq0.false) c.delete_next.ensures))))
