use Rattle.paper.proofs.Kit.{arith}
use Rattle.paper.specs.Process.{J72}
use Rattle.steps.proofs.Sequence.{then, then_err, any-sees, most, same_err}
use Rattle.undo.proofs.Lines.{looks}
use Rattle.structures.proofs.j72.Goals as goal

pub returns-in_err-erase : goal.returns-in_err-erase
unfolding J72
returns-in_err-erase c =
    let e = c.in_err-erase.ensures in
    rw (same_err c.from_residual.ensures.1) (looks _ (any-sees c.own-w0.ensures) (most _ (omega arith) (then_err _ e)))

pub returns : goal.returns
unfolding J72
returns c =
    let e = c.in_ok-erase.ensures in
    looks _ (any-sees c.own-w0.ensures) (then e c.pop.ensures)
