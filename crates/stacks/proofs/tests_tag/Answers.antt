use Rattle.acts.proofs.Auto.{acting}
use Rattle.paper.specs.Process.{tests_tag}
use Rattle.stacks.proofs.tests_tag.Goals as goal

pub returns : goal.returns
unfolding tests_tag
returns c = search acting depth 20
