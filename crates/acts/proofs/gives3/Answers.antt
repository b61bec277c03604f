use Rattle.steps.proofs.Sequence.{same_err}
use Rattle.steps.proofs.Sequence.{then, then_err, alike, most}
use Rattle.paper.proofs.Kit.{arith}
use Rattle.acts.proofs.Once.{gives_more}
use Rattle.acts.proofs.gives3.Goals as goal

pub returns-in_err-pop : goal.returns-in_err-pop
returns-in_err-pop c = rw (same_err c.from_residual.ensures.1) (alike (gives_more 2 _) (most 4 (omega arith) (then_err _ c.in_err-pop.ensures)))

pub returns-in_err-pop-2 : goal.returns-in_err-pop-2
returns-in_err-pop-2 c =
    rw (same_err c.from_residual-in_err-pop-2.ensures.1) (alike (gives_more 2 _) (most 4 (omega arith) (then c.in_ok-pop.ensures
    (alike (gives_more 1 _) (then_err _ c.in_err-pop-2.ensures)))))

pub returns : goal.returns
returns c =
    alike (gives_more 2 _) (then c.in_ok-pop.ensures (alike (gives_more 1 _) (then c.in_ok-pop-2.ensures c.gives1.ensures)))
