use Rattle.undo.proofs.Leaves.{owned}
use Rattle.paper.proofs.Kit.{ap, ◌∙◌}
use Rattle.paper.specs.Cell.{word_in}
use Rattle.acts.proofs.own.Goals as goal

pub returns : goal.returns
returns c = owned _ _ (ap word_in c.peek.ensures ∙ c.word_in.ensures)
