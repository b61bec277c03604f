use Rattle.floats.proofs.operated.Goals as goal

pub returns-then-minus : goal.returns-then-minus
returns-then-minus c = rw c.if-minus.true c.difference.ensures

pub returns-else-minus : goal.returns-else-minus
returns-else-minus c = rw c.if-minus.false c.sum.ensures
