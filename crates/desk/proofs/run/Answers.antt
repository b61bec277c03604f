use Rattle.desk.proofs.PageLaws.{zeros-lent, zeros-kept, run-page, run-prints}
use Rattle.desk.proofs.run.Goals as goal

pub answered-requires : goal.answered-requires
answered-requires c = run-page _ _ _ zeros-lent zeros-kept c.run-r.ensures

pub returns : goal.returns
returns c =
    run-prints _ _ _ zeros-lent zeros-kept c.run-r.ensures c.answered.ensures c.number.ensures
