use Rattle.paper.proofs.Kit.{rules, [], ◌∷◌, refl, arith}
use Rattle.paper.specs.Walk.{member}
use Rattle.paper.specs.Process.{listed}
use Rattle.steps.proofs.Listed.{entry_for, none_for}
use Rattle.acts.proofs.Dispatch.{arm, unlisted}
use Rattle.structures.proofs.on_structures.Goals as goal

pub returns-in-71 : goal.returns-in-71
unfolding entry_for listed
returns-in-71 c = let p = c.j71.ensures in arm 71 _ p (λ e h. h) (omega arith) refl (omega arith)

pub returns-in-72 : goal.returns-in-72
unfolding entry_for listed
returns-in-72 c = let p = c.j72.ensures in arm 72 _ p (λ e h. h) (omega arith) refl (omega arith)

pub returns-in-74 : goal.returns-in-74
unfolding entry_for listed
returns-in-74 c = let p = c.j74.ensures in arm 74 _ p (λ e h. h) (omega arith) refl (omega arith)

pub returns-in_default : goal.returns-in_default
unfolding none_for listed member
returns-in_default c = unlisted 71 74 _ (71 ∷ 72 ∷ 74 ∷ []) refl (omega arith) (omega arith) (search rules)
