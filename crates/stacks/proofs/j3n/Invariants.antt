use Rattle.paper.specs.Act.{restore}
use Rattle.stacks.proofs.j3n.Given as goal

abbrev pub ghost-each_w : goal.ghost-each_w
ghost-each_w a = restore
