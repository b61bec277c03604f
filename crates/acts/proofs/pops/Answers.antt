use Rattle.paper.proofs.Kit.{refl, ap, ◌∙◌, arith, ◌-◌, ◌+◌, rules}
use Rattle.paper.specs.Act.{pops}
use Rattle.steps.proofs.Sequence.{then, then_err, last, alike, most, give, same_err}
use Rattle.acts.proofs.Once.{pops_on, pops_one}
use Rattle.acts.proofs.pops.Goals as goal

pub loop-init : goal.loop-init
unfolding pops
loop-init g c = (refl, give)

pub loop-preserved : goal.loop-preserved
loop-preserved g c =
    (search rules, alike (pops_on c.loop.counter 1) (then c.loop.invariant.1 (alike pops_one (last _ c.in_ok-pop.ensures))))

pub returns-in_err-pop : goal.returns-in_err-pop
returns-in_err-pop g c =
    let i = c.loop.counter in
    let m = g.row.N - (i + 1) in
    rw (same_err c.from_residual.ensures.1) (most g.row.N (omega arith)
    (alike (pops_on (i + 1) m ∙ ap pops (omega arith)) (then_err (pops m) (alike (pops_on i 1) (then c.loop.invariant.1 (alike pops_one (last _ c.in_err-pop.ensures)))))))
