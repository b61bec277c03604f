use Rattle.steps.proofs.Sequence.{same_err}
use Rattle.undo.proofs.Auto.{lines}
use Rattle.steps.proofs.Sequence.{alike}
use Rattle.paper.specs.Act.{preserve, link_below}
use Rattle.acts.proofs.Used.{named-then}
use Rattle.acts.proofs.preserve.Goals as goal

pub returns-in_err-w : goal.returns-in_err-w
unfolding preserve
returns-in_err-w c = let e = c.in_err-w.ensures in rw (same_err c.from_residual.ensures.1) (alike (named-then _ (λ w. link_below _ w w)) (search lines depth 20))

pub returns : goal.returns
unfolding preserve
returns c = let h = c.in_ok-w.ensures in alike (named-then _ (λ w. link_below _ w w)) (search lines depth 20)
