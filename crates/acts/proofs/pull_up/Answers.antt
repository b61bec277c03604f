use Rattle.undo.proofs.Auto.{lines}
use Rattle.undo.proofs.Leaves.{reserving}
use Rattle.undo.proofs.Lines.{reads, looks, puts}
use Rattle.steps.proofs.Sequence.{same_err, test, then, any, when}
use Rattle.paper.specs.Act.{pull_up}
use Rattle.acts.proofs.pull_up.Goals as goal

pub returns-in_err-v : goal.returns-in_err-v
unfolding pull_up
returns-in_err-v c = let e = c.in_err-v.ensures in rw (same_err c.from_residual.ensures.1) (search lines depth 20)

pub returns-in_err-refuse_if : goal.returns-in_err-refuse_if
unfolding pull_up
returns-in_err-refuse_if c = let h0 = c.in_ok-v.ensures in let e = c.in_err-refuse_if.ensures in rw (same_err c.from_residual-in_err-refuse_if.ensures.1) (search lines depth 20)

pub returns-in_err-refuse_if-2 : goal.returns-in_err-refuse_if-2
unfolding pull_up
returns-in_err-refuse_if-2 c = let h0 = c.in_ok-v.ensures in let h1 = c.in_ok-refuse_if.ensures in let e = c.in_err-refuse_if-2.ensures in rw (same_err c.from_residual-in_err-refuse_if-2.ensures.1) (search lines depth 20)

pub returns : goal.returns
unfolding pull_up
returns c =
    reads _ (any c.in_ok-v.ensures) (test (when _ c.q1_for_hw.ensures c.in_ok-refuse_if.ensures)
    (looks _ (reserving _ _ _ c.reserved.ensures) (test c.in_ok-refuse_if-2.ensures
    (then (any (puts _ c.of_word.ensures c.put.ensures)) (any c.release.ensures)))))
