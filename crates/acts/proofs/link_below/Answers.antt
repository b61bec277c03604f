use Rattle.steps.proofs.Sequence.{same_err}
use Rattle.paper.proofs.Kit.{ap, arith}
use Rattle.paper.specs.Act.{link_below, take_as}
use Rattle.steps.proofs.Sequence.{bind, bind_err, alike, most}
use Rattle.undo.proofs.Lines.{puts}
use Rattle.acts.proofs.link_below.Goals as goal

pub returns-in_err-t : goal.returns-in_err-t
unfolding link_below
returns-in_err-t c =
    rw (same_err c.from_residual.ensures.1) (most _ (omega arith) (bind_err _ (alike (ap take_as c.of_word.ensures.unpacks) c.in_err-t.ensures)))

pub returns : goal.returns
unfolding link_below
returns c =
    bind _ (alike (ap take_as c.of_word.ensures.unpacks) c.in_ok-t.ensures) (puts _ c.with_link.ensures c.put.ensures)
