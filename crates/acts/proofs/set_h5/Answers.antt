use Rattle.paper.specs.Process.{set_h5}
use Rattle.acts.proofs.Auto.{acting}
use Rattle.acts.proofs.set_h5.Goals as goal

pub returns : goal.returns
unfolding set_h5
returns c = search acting depth 20
