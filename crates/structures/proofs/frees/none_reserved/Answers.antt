use Rattle.paper.proofs.Kit.{arith}
use Rattle.steps.proofs.Sequence.{same_err}
use Rattle.undo.proofs.Leaves.{reserving}
use Rattle.structures.proofs.Loops.{free_more, free-err, free-end}
use Rattle.structures.proofs.frees.none_reserved.Goals as goal

pub loop-c-preserved : goal.loop-c-preserved
loop-c-preserved c =
    free_more _ _ _ c.loop-c.invariant (omega arith) (λ s. reserving s _ _ c.reserved.ensures) c.in_ok-refuse_if.ensures

pub returns-in_err-refuse_if : goal.returns-in_err-refuse_if
returns-in_err-refuse_if c =
    rw (same_err c.from_residual.ensures.1)
    (free-err _ _ _ c.loop-c.invariant (omega arith) (λ s. reserving s _ _ c.reserved.ensures) c.in_err-refuse_if.ensures)

pub returns : goal.returns
returns c = free-end c.args.top c.args.met.now c.loop-c.c-index c.loop-c.invariant (omega arith)
