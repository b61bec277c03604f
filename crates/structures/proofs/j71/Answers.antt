use Rattle.paper.proofs.Kit.{arith}
use Rattle.paper.specs.Process.{J71}
use Rattle.steps.proofs.Sequence.{then, then_err, any, any-sees, most, same_err}
use Rattle.undo.proofs.Lines.{looks, reads, reads_err}
use Rattle.structures.proofs.Whole.{erases}
use Rattle.structures.proofs.j71.Goals as goal

pub returns-in_err-n : goal.returns-in_err-n
unfolding J71
returns-in_err-n c =
    let w = c.in_err-n.ensures in
    rw (same_err c.from_residual.ensures.1) (looks _ (any-sees c.own-w0.ensures) (reads_err _ (any w.says)))

pub returns-in_err-erase_back : goal.returns-in_err-erase_back
unfolding J71
returns-in_err-erase_back c =
    let w = c.in_ok-n.ensures in
    let e = erases _ _ _ _ c.met.ensures c.in_err-erase_back.ensures in
    rw (same_err c.from_residual-in_err-erase_back.ensures.1)
    (looks _ (any-sees c.own-w0.ensures) (reads _ (any w.says) (most _ (omega (arith, w.listed.0)) (then_err _ e))))

pub returns : goal.returns
unfolding J71
returns c =
    let w = c.in_ok-n.ensures in
    let e = erases _ _ _ _ c.met.ensures c.in_ok-erase_back.ensures in
    looks _ (any-sees c.own-w0.ensures) (reads _ (any w.says) (most _ (omega (arith, w.listed.0)) (then e c.pop.ensures)))
