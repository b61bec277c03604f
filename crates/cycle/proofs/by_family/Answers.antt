use Rattle.acts.proofs.Dispatch.{unlisted}
use Rattle.steps.proofs.Sequence.{most}
use Rattle.steps.proofs.Listed.{none_for}
use Rattle.paper.specs.Walk.{member}
use Rattle.paper.specs.Process.{listed}
use Rattle.paper.proofs.Kit.{arith, refl, []}
use Rattle.cycle.proofs.by_family.Goals as goal

pub returns-in-0-to-59 : goal.returns-in-0-to-59
returns-in-0-to-59 c = (most _ (omega arith) c.on_stacks.ensures)

pub returns-in-60-to-70 : goal.returns-in-60-to-70
returns-in-60-to-70 c = (most _ (omega arith) c.on_lists.ensures)

pub returns-in-71-to-74 : goal.returns-in-71-to-74
returns-in-71-to-74 c = (most _ (omega arith) c.on_structures.ensures)

pub returns-in-75-to-109 : goal.returns-in-75-to-109
returns-in-75-to-109 c = (most _ (omega arith) c.on_lists-in-75-to-109.ensures)

pub returns-in-110-to-129 : goal.returns-in-110-to-129
returns-in-110-to-129 c = (most _ (omega arith) c.on_numbers.ensures)

pub returns-in-130-to-151 : goal.returns-in-130-to-151
returns-in-130-to-151 c = (most _ (omega arith) c.on_tags.ensures)

pub returns-in-152-to-65535 : goal.returns-in-152-to-65535
unfolding none_for listed member
returns-in-152-to-65535 c = (unlisted 154 65535 _ [] refl (omega arith) (omega (arith, c.ranges.j)) tt)
