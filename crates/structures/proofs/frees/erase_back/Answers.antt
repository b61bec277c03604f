use Rattle.steps.proofs.Sequence.{same_err}
use Rattle.structures.proofs.Whole.{erased, not-erased}
use Rattle.structures.proofs.frees.erase_back.Goals as goal

pub returns-in_err-none_reserved : goal.returns-in_err-none_reserved
returns-in_err-none_reserved c = rw (same_err c.from_residual.ensures.1) (not-erased _ _ (c.in_err-none_reserved.ensures _))

pub returns : goal.returns
returns c = erased _ _ (c.in_ok-none_reserved.ensures _) c.release_all.ensures
