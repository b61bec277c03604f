use Rattle.regions.proofs.LentLaws.{told-from}
use Rattle.paper.proofs.Kit.{arith, rules}
use Rattle.cycle.proofs.top_of.Goals as goal

pub returns : goal.returns
returns c = (search rules, omega (arith, told-from c.requires))
