use Rattle.paper.proofs.Kit.{ap}
use Rattle.paper.specs.Process.{J90}
use Rattle.paper.specs.Act.{take_as, push}
use Rattle.acts.proofs.Auto.{acting}
use Rattle.steps.proofs.Sequence.{same_err, bind, alike}
use Rattle.lists.proofs.j90.Goals as goal

pub returns-in_err-c : goal.returns-in_err-c
unfolding J90
returns-in_err-c c = let e = c.in_err-c.ensures in rw (same_err c.from_residual.ensures.1) (search acting depth 20)

pub returns : goal.returns
unfolding J90
returns c =
    bind _ (alike (ap take_as c.of_word.ensures.unpacks) c.in_ok-c.ensures) (alike (ap push c.internal.ensures) c.push.ensures)
