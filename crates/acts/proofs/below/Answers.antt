use Rattle.undo.proofs.Auto.{lines}
use Rattle.paper.specs.Act.{below}
use Rattle.acts.proofs.below.Goals as goal

pub returns-then-l-eq0 : goal.returns-then-l-eq0
unfolding below
returns-then-l-eq0 c = search lines depth 20

pub returns : goal.returns
unfolding below
returns c = search (lines, c.if-l-eq0.false) depth 20
