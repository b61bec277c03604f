use Rattle.acts.proofs.Auto.{acting}
use Rattle.steps.proofs.Sequence.{same_err}
use Rattle.paper.specs.Process.{J120}
use Rattle.numbers.proofs.j120.Goals as goal

pub returns-in_err-t : goal.returns-in_err-t
unfolding J120
returns-in_err-t c = let e = c.in_err-t.ensures in rw (same_err c.from_residual.ensures.1) (search acting depth 20)

pub returns-in_err-n : goal.returns-in_err-n
unfolding J120
returns-in_err-n c =
    let h0 = c.in_ok-t.ensures in
    let e = c.in_err-n.ensures in
    rw (same_err c.from_residual-in_err-n.ensures.1) (search acting depth 20)

pub returns : goal.returns
unfolding J120
returns c =
    let h0 = c.in_ok-t.ensures in
    let h1 = c.in_ok-n.ensures in
    search acting depth 20
