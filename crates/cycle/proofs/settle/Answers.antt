use Rattle.paper.proofs.Kit.{refl}
use Rattle.cycle.specs.Turns.{Settled}
use Rattle.cycle.proofs.settle.Goals as goal

pub returns-in-Ok : goal.returns-in-Ok
unfolding Settled
returns-in-Ok c = record { same = refl; settled = rw c.in-Ok.is c.count.ensures }

pub returns-in-Err : goal.returns-in-Err
unfolding Settled
returns-in-Err c = record { same = refl; settled = rw c.in-Err.is c.rewind.ensures }
