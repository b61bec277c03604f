use Rattle.paper.proofs.FloatLaws.{finite-below}
use Rattle.floats.proofs.is_finite.Goals as goal

pub returns : goal.returns
returns c = finite-below c.args.b
