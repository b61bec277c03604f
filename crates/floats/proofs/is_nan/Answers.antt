use Rattle.paper.proofs.Kit.{sym, ◌∙◌}
use lib.Ieee.{binary32}
use lib.Ieee.Bits.{nan_bits_is, nan_bits_above}
use Rattle.floats.proofs.is_nan.Goals as goal

pub returns : goal.returns
returns c = sym (nan_bits_above binary32 c.args.b) ∙ nan_bits_is binary32 c.args.b
