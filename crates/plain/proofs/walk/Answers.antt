use Rattle.paper.proofs.Kit.{ap, ◌∙◌}
use Rattle.plain.proofs.Walked.{walk-unfit, walk-done, walk_refused}
use Rattle.plain.specs.Walks.{padded}
use Rattle.plain.proofs.walk.Goals as goal

pub returns-in-Err : goal.returns-in-Err
returns-in-Err c =
    c.none_met.ensures ∙ walk-unfit _ _ _ c.in-Err.ensures

pub returns-in-Err-walk : goal.returns-in-Err-walk
returns-in-Err-walk c =
    c.none_met-in-Err-walk.ensures ∙ walk_refused _ _ _ c.in-Ok.ensures c.in-Err-walk.ensures

pub returns-in-Ok-walk : goal.returns-in-Ok-walk
returns-in-Ok-walk c =
    walk-done _ _ _ c.in-Ok.ensures c.in-Ok-walk.ensures (c.in_order.ensures ∙ ap padded c.met.ensures)
