use Rattle.paper.specs.Process.{J74}
use Rattle.plain.proofs.copy.Given as goal

abbrev pub ghost-plainly : goal.ghost-plainly
ghost-plainly a = J74
