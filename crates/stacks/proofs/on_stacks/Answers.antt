use Rattle.paper.proofs.Kit.{[], ◌∷◌, refl, arith, rules}
use Rattle.paper.specs.Walk.{member}
use Rattle.paper.specs.Process.{listed, J2n, J3n, J4n, J5n}
use Rattle.steps.proofs.Listed.{entry_for, none_for}
use Rattle.steps.proofs.Sequence.{give}
use Rattle.acts.proofs.Dispatch.{arms, arm, tens, unlisted}
use Rattle.stacks.proofs.on_stacks.Goals.{in_default-via-then-j-lt20, in_default-via-else-j-lt20+else-j-lt30+else-j-lt40+else-j-lt50+else-j-lt60}
use Rattle.stacks.proofs.on_stacks.Goals as goal

pub returns-in-0 : goal.returns-in-0
unfolding entry_for listed
returns-in-0 c = arm 0 _ give (λ e h. h) c.in-0.is refl (omega arith)

pub returns-in-2 : goal.returns-in-2
unfolding entry_for listed
returns-in-2 c = search arms

pub returns-in-3 : goal.returns-in-3
unfolding entry_for listed
returns-in-3 c = search arms

pub returns-in-4 : goal.returns-in-4
unfolding entry_for listed
returns-in-4 c = search arms

pub returns-in-5 : goal.returns-in-5
unfolding entry_for listed
returns-in-5 c = search arms

pub returns-in-6 : goal.returns-in-6
unfolding entry_for listed
returns-in-6 c = search arms

pub returns-in-8 : goal.returns-in-8
unfolding entry_for listed
returns-in-8 c = search arms

pub returns-in-9 : goal.returns-in-9
unfolding entry_for listed
returns-in-9 c = search arms

pub returns-in-20-to-29 : goal.returns-in-20-to-29
unfolding entry_for listed
returns-in-20-to-29 c =
    tens 20 J2n refl (omega arith) (omega arith) (omega arith) c.j2n.ensures (λ e h. h)

pub returns-in-30-to-39 : goal.returns-in-30-to-39
unfolding entry_for listed
returns-in-30-to-39 c =
    tens 30 J3n refl (omega arith) (omega arith) (omega arith) c.j3n.ensures (λ e h. h)

pub returns-in-40-to-49 : goal.returns-in-40-to-49
unfolding entry_for listed
returns-in-40-to-49 c =
    tens 40 J4n refl (omega arith) (omega arith) (omega arith) c.j4n.ensures (λ e h. h)

pub returns-in-50-to-59 : goal.returns-in-50-to-59
unfolding entry_for listed
returns-in-50-to-59 c =
    tens 50 J5n refl (omega arith) (omega arith) (omega arith) c.j5n.ensures (λ e h. h)

pub returns-in_default : goal.returns-in_default
unfolding none_for listed member
returns-in_default c =
    unlisted 0 19 _ (0 ∷ 2 ∷ 3 ∷ 4 ∷ 5 ∷ 6 ∷ 8 ∷ 9 ∷ 1 ∷ []) refl (omega arith)
    (elim c.in_default.branch [
      | in_default-via-then-j-lt20 w ↦ omega arith
      | in_default-via-else-j-lt20+else-j-lt30+else-j-lt40+else-j-lt50+else-j-lt60 w ↦ omega arith
    ]) (search rules, c.requires.2)
