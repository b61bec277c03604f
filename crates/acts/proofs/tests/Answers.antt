use Rattle.paper.proofs.Kit.{arith}
use Rattle.steps.proofs.Sequence.{then, any, most}
use Rattle.paper.specs.Process.{tests}
use Rattle.acts.proofs.tests.Goals as goal

pub returns : goal.returns
unfolding tests
returns g c = most g.row.N (omega arith) (then (any c.set_h5.ensures) c.pops.ensures)
