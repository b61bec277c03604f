use Rattle.acts.proofs.Auto.{acting}
use Rattle.steps.proofs.Sequence.{same_err}
use Rattle.paper.specs.Process.{compares0}
use Rattle.paper.specs.Term.{holds}
use Rattle.floats.specs.Kept.{relation_of}
use Rattle.paper.proofs.Kit.{ap, ◌∙◌}
use Rattle.numbers.proofs.compares0.Goals as goal

pub returns-in_err-t : goal.returns-in_err-t
unfolding compares0
returns-in_err-t c = let e = c.in_err-t.ensures in rw (same_err c.from_residual.ensures.1) (search acting depth 20)

pub returns : goal.returns
unfolding compares0
returns c =
    let h0 = c.in_ok-t.ensures in
    let against = c.holds.ensures ∙ ap (holds (relation_of c.args.k)) c.with_zero.ensures in
    search (acting, against) depth 20
