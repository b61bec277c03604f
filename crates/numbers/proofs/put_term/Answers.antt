use Rattle.undo.proofs.Auto.{t-fails, t-passes}
use Rattle.undo.proofs.Lines.{puts, once}
use Rattle.steps.proofs.Sequence.{test, test_err, same_err}
use Rattle.paper.specs.Process.{put_term}
use Rattle.paper.proofs.Kit.{ap, not}
use Rattle.numbers.proofs.Fitting.{given_some, given_none, packed-as}
use Rattle.numbers.proofs.put_term.Goals as goal

pub returns-in_err-x : goal.returns-in_err-x
unfolding put_term
returns-in_err-x c = λ t g.
    let d = given_none c.args.given t c.in_err-x.ensures.value g in
    rw (same_err c.from_residual.ensures.1, d.0) (test_err _ (t-fails _ _ (ap not d.1)))

pub returns : goal.returns
unfolding put_term
returns c = λ t g.
    let d = given_some c.args.given _ t c.in_ok-x.ensures.value g in
    test (t-passes _ _ (ap not d.1)) (once _ _ (puts _ (packed-as d.0 c.of_term.ensures) c.put.ensures))
