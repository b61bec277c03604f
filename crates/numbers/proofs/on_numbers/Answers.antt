use Rattle.acts.proofs.Dispatch.{arms, unlisted}
use Rattle.steps.proofs.Listed.{entry_for, none_for}
use Rattle.paper.specs.Process.{listed}
use Rattle.paper.specs.Walk.{member}
use Rattle.paper.proofs.Kit.{[], ◌∷◌, refl, arith, rules}
use Rattle.numbers.proofs.on_numbers.Goals as goal

pub returns-in-110 : goal.returns-in-110
unfolding entry_for listed
returns-in-110 c = search arms

pub returns-in-111 : goal.returns-in-111
unfolding entry_for listed
returns-in-111 c = search arms

pub returns-in-114 : goal.returns-in-114
unfolding entry_for listed
returns-in-114 c = search arms

pub returns-in-115 : goal.returns-in-115
unfolding entry_for listed
returns-in-115 c = search arms

pub returns-in-116 : goal.returns-in-116
unfolding entry_for listed
returns-in-116 c = search arms

pub returns-in-117 : goal.returns-in-117
unfolding entry_for listed
returns-in-117 c = search arms

pub returns-in-118 : goal.returns-in-118
unfolding entry_for listed
returns-in-118 c = search arms

pub returns-in-119 : goal.returns-in-119
unfolding entry_for listed
returns-in-119 c = search arms

pub returns-in-120 : goal.returns-in-120
unfolding entry_for listed
returns-in-120 c = search arms

pub returns-in-123 : goal.returns-in-123
unfolding entry_for listed
returns-in-123 c = search arms

pub returns-in-124 : goal.returns-in-124
unfolding entry_for listed
returns-in-124 c = search arms

pub returns-in-125 : goal.returns-in-125
unfolding entry_for listed
returns-in-125 c = search arms

pub returns-in_default : goal.returns-in_default
unfolding none_for listed member
returns-in_default c =
    unlisted 110 129 _ (110 ∷ 111 ∷ 114 ∷ 115 ∷ 116 ∷ 117 ∷ 118 ∷ 119 ∷ 120 ∷ 123 ∷ 124 ∷ 125 ∷ []) refl (omega arith) (omega arith)
    (search rules)
