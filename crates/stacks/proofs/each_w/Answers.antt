use Rattle.paper.proofs.Kit.{arith, rules}
use Rattle.steps.proofs.Sequence.{same_err, most}
use Rattle.stacks.proofs.Each.{each_start, each_more, each_end, each_stops}
use Rattle.stacks.proofs.each_w.Goals.{else-loop-i-test, then-loop-i-test+in_ok-act+else-i-n}
use Rattle.stacks.proofs.each_w.Goals as goal

pub loop-i-init : goal.loop-i-init
loop-i-init g c = (search rules, each_start g.does 2)

pub loop-i-preserved : goal.loop-i-preserved
loop-i-preserved g c =
    (search rules, each_more g.does 2 _ c.loop-i.invariant.1 (c.requires.1.1.1 _ _ _ _ _ _ c.in_ok-act.ensures))

pub returns-in_err-act : goal.returns-in_err-act
returns-in_err-act g c =
    rw (same_err c.from_residual.ensures.1) (most 20 (omega arith)
    (each_stops g.does 2 _ (omega arith) c.loop-i.invariant.1 (c.requires.1.1.1 _ _ _ _ _ _ c.in_err-act.ensures)))

pub returns : goal.returns
returns g c =
    elim c.loop-i-test.branch [
      | else-loop-i-test w ↦ absurd (omega (arith, w.loop-i-test.false))
      | then-loop-i-test+in_ok-act+else-i-n w ↦
          rw (w.cells-is, w.log-is) (most 20 (omega arith)
          (each_end g.does 2 _ (omega arith) c.loop-i.invariant.1 (c.requires.1.1.1 _ _ _ _ _ _ w.in_ok-act.ensures)))
    ]
