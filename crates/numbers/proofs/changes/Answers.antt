use Rattle.undo.proofs.Auto.{lines}
use Rattle.undo.proofs.Lines.{looks, reads}
use Rattle.steps.proofs.Sequence.{any, any-sees, test, when, then, then_err, most, alike, same_err}
use Rattle.paper.specs.Process.{changes}
use Rattle.paper.specs.Act.{gives}
use Rattle.paper.proofs.Kit.{ap, not, arith}
use Rattle.numbers.proofs.changes.Goals as goal

pub returns-in_err-t : goal.returns-in_err-t
unfolding changes
returns-in_err-t c = let e = c.in_err-t.ensures in rw (same_err c.from_residual.ensures.1) (search lines depth 20)

pub returns-in_err-refuse_if : goal.returns-in_err-refuse_if
unfolding changes
returns-in_err-refuse_if c =
    let h0 = c.in_ok-t.ensures in
    let e = c.in_err-refuse_if.ensures in
    rw (same_err c.from_residual-in_err-refuse_if.ensures.1) (search lines depth 20)

pub returns-in_err-put_term : goal.returns-in_err-put_term
unfolding changes
returns-in_err-put_term c =
    rw (same_err c.from_residual-in_err-put_term.ensures.1)
    (looks _ (any-sees c.own-w0.ensures) (reads _ (any c.in_ok-t.ensures)
    (test (when _ (ap not c.takes.ensures) c.in_ok-refuse_if.ensures)
    (most 3 (omega arith) (then_err _ (any (c.in_err-put_term.ensures _ c.changed.ensures)))))))

pub returns : goal.returns
unfolding changes
returns c =
    looks _ (any-sees c.own-w0.ensures) (reads _ (any c.in_ok-t.ensures)
    (test (when _ (ap not c.takes.ensures) c.in_ok-refuse_if.ensures)
    (then (any (c.in_ok-put_term.ensures _ c.changed.ensures)) (alike (ap (gives 1) c.symbol.ensures) c.gives1.ensures))))
