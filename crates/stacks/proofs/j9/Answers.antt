use Rattle.acts.proofs.Auto.{acting}
use Rattle.steps.proofs.Sequence.{same_err}
use Rattle.paper.specs.Process.{J9}
use Rattle.stacks.proofs.j9.Goals as goal

pub returns-in_err-x : goal.returns-in_err-x
unfolding J9
returns-in_err-x c = let e = c.in_err-x.ensures in rw (same_err c.from_residual.ensures.1) (search acting depth 20)

pub returns-in_err-refuse_if : goal.returns-in_err-refuse_if
unfolding J9
returns-in_err-refuse_if c =
    let h0 = c.in_ok-x.ensures in
    let e = c.in_err-refuse_if.ensures in
    rw (same_err c.from_residual-in_err-refuse_if.ensures.1) (search acting depth 20)

pub returns-in_err-refuse_if-2 : goal.returns-in_err-refuse_if-2
unfolding J9
returns-in_err-refuse_if-2 c =
    let h0 = c.in_ok-x.ensures in
    let h1 = c.in_ok-refuse_if.ensures in
    let e = c.in_err-refuse_if-2.ensures in
    rw (same_err c.from_residual-in_err-refuse_if-2.ensures.1) (search acting depth 20)

pub returns : goal.returns
unfolding J9
returns c = let h0 = c.in_ok-x.ensures in let h1 = c.in_ok-refuse_if.ensures in let h2 = c.in_ok-refuse_if-2.ensures in search acting depth 20
