use Rattle.steps.proofs.Sequence.{give}
use Rattle.paper.specs.Cycle.{advance}
use Rattle.cycle.proofs.control.advance.Goals as goal

pub returns-then-away : goal.returns-then-away
unfolding advance
returns-then-away c = rw c.if-away.true give

pub returns : goal.returns
unfolding advance
returns c =
    rw c.if-away.false c.to_link.ensures
