use Rattle.undo.proofs.Auto.{lines}
use Rattle.steps.proofs.Sequence.{same_err}
use Rattle.paper.specs.Act.{target}
use Rattle.acts.proofs.target.Goals as goal

pub returns-in_err-x : goal.returns-in_err-x
unfolding target
returns-in_err-x c = let e = c.in_err-x.ensures in rw (same_err c.from_residual.ensures.1) (search lines depth 20)

pub returns-in_err-refuse_if : goal.returns-in_err-refuse_if
unfolding target
returns-in_err-refuse_if c = let h0 = c.in_ok-x.ensures in let e = c.in_err-refuse_if.ensures in rw (same_err c.from_residual-in_err-refuse_if.ensures.1) (search lines depth 20)

pub returns : goal.returns
unfolding target
returns c = let h0 = c.in_ok-x.ensures in let h1 = c.in_ok-refuse_if.ensures in search lines depth 20
