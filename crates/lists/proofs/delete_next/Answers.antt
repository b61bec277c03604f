use Rattle.paper.specs.Process.{delete_next}
use Rattle.steps.proofs.Sequence.{same_err, then, then_err, most}
use Rattle.undo.proofs.Auto.{w2}
use Rattle.paper.proofs.Kit.{arith}
use Rattle.lists.proofs.delete_next.Goals as goal

pub returns-in_err-pull_up : goal.returns-in_err-pull_up
unfolding delete_next
returns-in_err-pull_up c =
    rw (same_err c.from_residual.ensures.1) (most 3 (omega arith) (then_err _ (most 2 (w2 c.args.c) c.in_err-pull_up.ensures)))

pub returns : goal.returns
unfolding delete_next
returns c =
    then (most 2 (w2 c.args.c) c.in_ok-pull_up.ensures) c.tests.ensures
