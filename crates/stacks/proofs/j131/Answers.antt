use Rattle.acts.proofs.Auto.{acting}
use Rattle.steps.proofs.Sequence.{same_err}
use Rattle.paper.specs.Process.{J131}
use Rattle.stacks.proofs.j131.Goals as goal

pub returns-in_err-x : goal.returns-in_err-x
unfolding J131
returns-in_err-x c = let e = c.in_err-x.ensures in rw (same_err c.from_residual.ensures.1) (search acting depth 20)

pub returns-in_err-not_own : goal.returns-in_err-not_own
unfolding J131
returns-in_err-not_own c =
    let h0 = c.in_ok-x.ensures in
    let e = c.in_err-not_own.ensures in
    rw (same_err c.from_residual-in_err-not_own.ensures.1) (search acting depth 20)

pub returns : goal.returns
unfolding J131
returns c = let h0 = c.in_ok-x.ensures in let h1 = c.in_ok-not_own.ensures in search acting depth 20
