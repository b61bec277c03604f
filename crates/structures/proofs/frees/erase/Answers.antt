use Rattle.paper.specs.Walk.{erase}
use Rattle.steps.proofs.Sequence.{any, most, same_err}
use Rattle.undo.proofs.Lines.{reads, reads_err}
use Rattle.structures.proofs.Whole.{erases}
use Rattle.structures.proofs.frees.erase.Goals as goal

pub returns-in_err-n : goal.returns-in_err-n
unfolding erase
returns-in_err-n c = let w = c.in_err-n.ensures in rw (same_err c.from_residual.ensures.1) (reads_err _ (any w.says))

pub returns : goal.returns
unfolding erase
returns c = let w = c.in_ok-n.ensures in reads _ (any w.says) (most _ w.listed.0 (erases _ _ _ _ c.met.ensures c.erase_back.ensures))
