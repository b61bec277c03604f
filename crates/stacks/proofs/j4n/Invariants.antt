use Rattle.paper.specs.Act.{preserve}
use Rattle.stacks.proofs.j4n.Given as goal

abbrev pub ghost-each_w : goal.ghost-each_w
ghost-each_w a = preserve
