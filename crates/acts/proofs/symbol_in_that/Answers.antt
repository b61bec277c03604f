use Rattle.undo.proofs.Auto.{lines}
use Rattle.steps.proofs.Sequence.{same_err}
use Rattle.paper.specs.Act.{symbol_in_that}
use Rattle.acts.proofs.symbol_in_that.Goals as goal

pub returns-in_err-w : goal.returns-in_err-w
unfolding symbol_in_that
returns-in_err-w c = let e = c.in_err-w.ensures in rw (same_err c.from_residual.ensures.1) (search lines depth 20)

pub returns : goal.returns
unfolding symbol_in_that
returns c = let h0 = c.in_ok-w.ensures in search lines depth 20
