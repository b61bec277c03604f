use Rattle.paper.specs.Process.{J72}
use Rattle.plain.proofs.erase.Given as goal

abbrev pub ghost-plainly : goal.ghost-plainly
ghost-plainly a = J72
