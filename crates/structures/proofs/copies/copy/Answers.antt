use Rattle.paper.specs.Walk.{copy}
use Rattle.steps.proofs.Sequence.{same_err}
use Rattle.undo.proofs.Lines.{reads_err}
use Rattle.structures.proofs.Whole.{copied-whole}
use Rattle.structures.proofs.copies.copy.Goals as goal

pub returns-in_err-n : goal.returns-in_err-n
unfolding copy
returns-in_err-n c = let w = c.in_err-n.ensures in rw (same_err c.from_residual.ensures.1) (reads_err _ w.says)

pub returns : goal.returns
returns c = let w = c.in_ok-n.ensures in copied-whole _ _ _ w.says c.copy_met.ensures.did
