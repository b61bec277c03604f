use Rattle.paper.specs.Process.{move_to}
use Rattle.stacks.proofs.j2n.Given as goal

abbrev pub ghost-each_w : goal.ghost-each_w
ghost-each_w a = move_to
