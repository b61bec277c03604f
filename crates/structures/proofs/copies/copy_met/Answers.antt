use Rattle.steps.proofs.Sequence.{same_err}
use Rattle.structures.proofs.Whole.{copied-met}
use Rattle.structures.proofs.copies.copy_met.Goals as goal

pub returns-in_err-prepare-clause-did : goal.returns-in_err-prepare-clause-did
returns-in_err-prepare-clause-did c = let t = c.in_err-prepare.ensures in rw (same_err c.from_residual.ensures.1) (t.prepares _)

pub returns-clause-did : goal.returns-clause-did
returns-clause-did c =
    let t = c.in_ok-prepare.ensures in
    copied-met _ _ _ t.prepares c.copy_all.ensures c.mark_at-name.ensures
