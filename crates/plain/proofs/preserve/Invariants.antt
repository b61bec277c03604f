use Rattle.paper.specs.Plain.{preserve_h0}
use Rattle.plain.proofs.preserve.Given as goal

abbrev pub ghost-plainly : goal.ghost-plainly
ghost-plainly a = preserve_h0
