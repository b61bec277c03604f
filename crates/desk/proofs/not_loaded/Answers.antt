use Rattle.paper.proofs.Kit.{ap, ◌∙◌}
use Rattle.paper.specs.Program.{answer_line}
use Rattle.desk.specs.Page.{printed}
use Rattle.desk.proofs.not_loaded.Goals as goal

pub returns : goal.returns
returns c = c.answered.ensures ∙ ap (λ a. printed (answer_line a)) c.number.ensures
