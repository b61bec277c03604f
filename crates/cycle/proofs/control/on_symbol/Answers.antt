use Rattle.cycle.proofs.OperateLaws.{operates, the-sixth}
use Rattle.paper.specs.Cycle.{operate}
use Rattle.paper.specs.Act.{choose}
use Rattle.paper.proofs.Kit.{arith, refl}
use Rattle.cycle.proofs.control.on_symbol.Goals as goal

pub returns-in-1 : goal.returns-in-1
unfolding operate choose
returns-in-1 c =
    operates _ 1 _ _ c.in-1.is refl (omega arith) (λ e h. tt) c.push.ensures

pub returns-in-2 : goal.returns-in-2
unfolding operate choose
returns-in-2 c =
    operates _ 2 _ _ c.in-2.is refl (omega arith) (λ e h. h) c.put_in.ensures

pub returns-in-3 : goal.returns-in-3
unfolding operate choose
returns-in-3 c =
    operates _ 3 _ _ c.in-3.is refl (omega arith) (λ e h. h) c.restore.ensures

pub returns-in-4 : goal.returns-in-4
unfolding operate choose
returns-in-4 c =
    operates _ 4 _ _ c.in-4.is refl (omega arith) (λ e h. tt) c.preserve.ensures

pub returns-in-5 : goal.returns-in-5
unfolding operate choose
returns-in-5 c =
    operates _ 5 _ _ c.in-5.is refl (omega arith) (λ e h. tt) c.own_store.ensures

pub returns-in_default : goal.returns-in_default
unfolding operate choose
returns-in_default c =
    operates c.args.p 6 _ _ (the-sixth _ c.requires.1 c.requires.2 c.in_default.in_default-own.rest) refl (omega arith) (λ e h. tt) c.copy_to.ensures
