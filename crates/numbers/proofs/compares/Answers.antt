use Rattle.acts.proofs.Auto.{acting}
use Rattle.steps.proofs.Sequence.{same_err}
use Rattle.paper.specs.Process.{compares}
use Rattle.numbers.proofs.compares.Goals as goal

pub returns-in_err-w1 : goal.returns-in_err-w1
unfolding compares
returns-in_err-w1 c = let e = c.in_err-w1.ensures in rw (same_err c.from_residual.ensures.1) (search acting depth 20)

pub returns-in_err-p : goal.returns-in_err-p
unfolding compares
returns-in_err-p c =
    let h0 = c.in_ok-w1.ensures in
    let e = c.in_err-p.ensures in
    rw (same_err c.from_residual-in_err-p.ensures.1) (search acting depth 20)

pub returns : goal.returns
unfolding compares
returns c =
    let h0 = c.in_ok-w1.ensures in
    let h1 = c.in_ok-p.ensures in
    search acting depth 20
