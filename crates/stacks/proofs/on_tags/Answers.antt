use Rattle.paper.proofs.Kit.{[], ◌∷◌, refl, arith, rules}
use Rattle.paper.specs.Walk.{member}
use Rattle.paper.specs.Process.{listed}
use Rattle.steps.proofs.Listed.{entry_for, none_for}
use Rattle.acts.proofs.Dispatch.{arms, unlisted}
use Rattle.stacks.proofs.on_tags.Goals as goal

pub returns-in-130 : goal.returns-in-130
unfolding entry_for listed
returns-in-130 c = search arms

pub returns-in-131 : goal.returns-in-131
unfolding entry_for listed
returns-in-131 c = search arms

pub returns-in-132 : goal.returns-in-132
unfolding entry_for listed
returns-in-132 c = search arms

pub returns-in-134 : goal.returns-in-134
unfolding entry_for listed
returns-in-134 c = search arms

pub returns-in-136 : goal.returns-in-136
unfolding entry_for listed
returns-in-136 c = search arms

pub returns-in-138 : goal.returns-in-138
unfolding entry_for listed
returns-in-138 c = search arms

pub returns-in_default : goal.returns-in_default
unfolding none_for listed member
returns-in_default c =
    unlisted 130 151 _ (130 ∷ 131 ∷ 132 ∷ 134 ∷ 136 ∷ 138 ∷ []) refl (omega arith) (omega arith) (search rules)
