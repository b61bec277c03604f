use Rattle.paper.proofs.Kit.{arith, sym, length-take-le}
use Rattle.vectors.proofs.answers.lines.Goals as goal

pub slice_bounds-digits-end-then-len-lt-MANY_BYTES : goal.slice_bounds-digits-end-then-len-lt-MANY_BYTES
slice_bounds-digits-end-then-len-lt-MANY_BYTES g c = sym (length-take-le _ _ (omega arith))
