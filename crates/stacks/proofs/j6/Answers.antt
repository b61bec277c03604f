use Rattle.paper.proofs.Kit.{ap, arith}
use Rattle.paper.specs.Act.{push, gives}
use Rattle.paper.specs.Process.{J6}
use Rattle.steps.proofs.Sequence.{same_err, any, any-sees, then, then_err, alike, most}
use Rattle.undo.proofs.Lines.{looks, reads, reads_err}
use Rattle.stacks.proofs.Pops.{pops-push}
use Rattle.stacks.proofs.j6.Goals as goal

pub returns-in_err-w1 : goal.returns-in_err-w1
unfolding J6
returns-in_err-w1 c =
    rw (same_err c.from_residual.ensures.1) (looks _ (any-sees c.own-w0.ensures) (reads_err _ (any c.in_err-w1.ensures)))

pub returns-in_err-pop : goal.returns-in_err-pop
unfolding J6
returns-in_err-pop c =
    rw (same_err c.from_residual-in_err-pop.ensures.1) (looks _ (any-sees c.own-w0.ensures) (reads _ (any c.in_ok-w1.ensures)
    (alike (pops-push _ _) (most 4 (omega arith) (then_err _ c.in_err-pop.ensures)))))

pub returns-in_err-gives1 : goal.returns-in_err-gives1
unfolding J6
returns-in_err-gives1 c =
    rw (same_err c.from_residual-in_err-gives1.ensures.1) (looks _ (any-sees c.own-w0.ensures) (reads _ (any c.in_ok-w1.ensures)
    (alike (pops-push _ _) (most 4 (omega arith) (then c.in_ok-pop.ensures
    (then_err _ (alike (ap (gives 1) c.symbol.ensures) c.in_err-gives1.ensures)))))))

pub returns : goal.returns
unfolding J6
returns c =
    looks _ (any-sees c.own-w0.ensures) (reads _ (any c.in_ok-w1.ensures) (alike (pops-push _ _)
    (then c.in_ok-pop.ensures (then (alike (ap (gives 1) c.symbol.ensures) c.in_ok-gives1.ensures)
    (any (alike (ap push c.symbol-2.ensures) c.push.ensures))))))
