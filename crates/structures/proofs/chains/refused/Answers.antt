use Rattle.paper.proofs.Kit.{ap, ◌∙◌, not, eqb}
use Rattle.steps.proofs.Sequence.{bind, bind_err, test, test_err, when, give, same_err}
use Rattle.structures.specs.Walks.{chains}
use Rattle.structures.proofs.chains.refused.Goals as goal

pub returns-in_err-w : goal.returns-in_err-w
unfolding chains
returns-in_err-w c = λ seen m. rw (same_err c.from_residual.ensures.1) (bind_err _ c.in_err-w.ensures)

pub returns-in_err-refuse_if : goal.returns-in_err-refuse_if
unfolding chains
returns-in_err-refuse_if c =
    λ seen m.
    rw (same_err c.from_residual-in_err-refuse_if.ensures.1)
    (bind _ {j = 0} c.in_ok-w.ensures (test_err _ (when _ (ap (λ x. not (eqb x 0)) c.mark_at.ensures ∙ m.is _) c.in_err-refuse_if.ensures)))

pub returns : goal.returns
unfolding chains
returns c =
    λ seen m.
    bind _ c.in_ok-w.ensures
    (test (when _ (ap (λ x. not (eqb x 0)) c.mark_at.ensures ∙ m.is _) c.in_ok-refuse_if.ensures) give)
