use Rattle.paper.proofs.Kit.{refl, [], ◌∷◌, arith, rules}
use Rattle.paper.specs.Process.{listed}
use Rattle.paper.specs.Walk.{member}
use Rattle.steps.proofs.Listed.{entry_for, none_for}
use Rattle.acts.proofs.Dispatch.{arms, unlisted}
use Rattle.lists.proofs.on_lists.Goals as goal

pub returns-in-60 : goal.returns-in-60
unfolding entry_for listed
returns-in-60 c = search arms

pub returns-in-63 : goal.returns-in-63
unfolding entry_for listed
returns-in-63 c = search arms

pub returns-in-64 : goal.returns-in-64
unfolding entry_for listed
returns-in-64 c = search arms

pub returns-in-68 : goal.returns-in-68
unfolding entry_for listed
returns-in-68 c = search arms

pub returns-in-90 : goal.returns-in-90
unfolding entry_for listed
returns-in-90 c = search arms

pub returns-in_default : goal.returns-in_default
unfolding none_for listed member
returns-in_default c =
    unlisted 60 109 _ (60 ∷ 63 ∷ 64 ∷ 68 ∷ 90 ∷ 71 ∷ 72 ∷ 74 ∷ []) refl (omega arith) (omega arith)
    (((search rules, c.requires.3), c.requires.4), c.requires.5)
