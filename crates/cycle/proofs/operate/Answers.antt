use Rattle.cycle.proofs.PartLaws.{part-quiet, part-alike}
use Rattle.cycle.proofs.OperateLaws.{branches}
use Rattle.steps.proofs.Sequence.{same_err, most, alike, any}
use Rattle.paper.specs.Cycle.{operate}
use Rattle.paper.specs.Act.{choose}
use Rattle.paper.proofs.Kit.{refl, sym, ap, arith}
use Rattle.std.specs.Prelude.{Ok, Err}
use Rattle.cycle.proofs.operate.Goals as goal

pub returns-in-0 : goal.returns-in-0
unfolding operate choose
returns-in-0 c = (part-alike (ap (λ p. operate p c.args.f.x) (sym c.in-0.is)) c.execute.ensures)

pub returns-in-7-to-255 : goal.returns-in-7-to-255
returns-in-7-to-255 c = (part-quiet _ _ _ c.requires.within (Ok _) refl refl (alike (branches _ _ (omega arith)) (most _ (omega arith) (any c.branch-away.ensures))))

pub returns-in_err-on_symbol-in-1-to-6 : goal.returns-in_err-on_symbol-in-1-to-6
returns-in_err-on_symbol-in-1-to-6 c =
    let f = c.in_err-on_symbol-in-1-to-6.ensures in
    rw (same_err c.from_residual.ensures.1)
    (part-quiet _ _ _ c.requires.within (Err _) refl c.top_of.ensures.0 (most _ (omega arith) f))

pub returns-in_ok-on_symbol-in-1-to-6 : goal.returns-in_ok-on_symbol-in-1-to-6
returns-in_ok-on_symbol-in-1-to-6 c =
    let f = c.in_ok-on_symbol-in-1-to-6.ensures in
    part-quiet _ _ _ c.requires.within (Ok _) refl c.top_of.ensures.0 (most _ (omega arith) f)
