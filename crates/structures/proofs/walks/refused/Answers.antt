use Rattle.paper.proofs.Kit.{ap, ◌∙◌, not, eqb}
use Rattle.paper.specs.Walk.{meet}
use Rattle.steps.proofs.Sequence.{bind, bind_err, test, test_err, when, give, same_err}
use Rattle.structures.specs.Walks.{arrives}
use Rattle.structures.proofs.walks.refused.Goals as goal

pub returns-in_err-x : goal.returns-in_err-x
unfolding arrives meet
returns-in_err-x c = λ seen m. rw (same_err c.from_residual.ensures.1) (bind_err _ (bind_err _ c.in_err-x.ensures))

pub returns-in_err-refuse_if : goal.returns-in_err-refuse_if
unfolding arrives meet
returns-in_err-refuse_if c =
    λ seen m.
    rw (same_err c.from_residual-in_err-refuse_if.ensures.1)
    (bind_err _ (bind _ {j = 0} c.in_ok-x.ensures (test_err _ (when _ c.reserved.ensures c.in_err-refuse_if.ensures))))

pub returns-in_err-refuse_if-2 : goal.returns-in_err-refuse_if-2
unfolding arrives meet
returns-in_err-refuse_if-2 c =
    λ seen m.
    let met = bind _ c.in_ok-x.ensures (test (when _ c.reserved.ensures c.in_ok-refuse_if.ensures) give) in
    rw (same_err c.from_residual-in_err-refuse_if-2.ensures.1)
    (bind _ {j = 0} met (test_err _ (when _ c.not_word.ensures c.in_err-refuse_if-2.ensures)))

pub returns-in_err-refuse_if-3 : goal.returns-in_err-refuse_if-3
unfolding arrives meet
returns-in_err-refuse_if-3 c =
    λ seen m.
    let met = bind _ c.in_ok-x.ensures (test (when _ c.reserved.ensures c.in_ok-refuse_if.ensures) give) in
    rw (same_err c.from_residual-in_err-refuse_if-3.ensures.1)
    (bind _ {j = 0} met
    (test (when _ c.not_word.ensures c.in_ok-refuse_if-2.ensures)
    (test_err _ (when _ (ap (λ x. not (eqb x 0)) c.mark_at.ensures ∙ m.is c.args.c) c.in_err-refuse_if-3.ensures))))

pub returns-in_err-refuse_if-4 : goal.returns-in_err-refuse_if-4
unfolding arrives meet
returns-in_err-refuse_if-4 c =
    λ seen m.
    let met = bind _ c.in_ok-x.ensures (test (when _ c.reserved.ensures c.in_ok-refuse_if.ensures) give) in
    rw (same_err c.from_residual-in_err-refuse_if-4.ensures.1)
    (bind _ {j = 0} met
    (test (when _ c.not_word.ensures c.in_ok-refuse_if-2.ensures)
    (test (when _ (ap (λ x. not (eqb x 0)) c.mark_at.ensures ∙ m.is c.args.c) c.in_ok-refuse_if-3.ensures)
    (test_err _ (when _ c.too_deep.ensures c.in_err-refuse_if-4.ensures)))))

pub returns : goal.returns
unfolding arrives meet
returns c =
    λ seen m.
    let met = bind _ c.in_ok-x.ensures (test (when _ c.reserved.ensures c.in_ok-refuse_if.ensures) give) in
    bind _ met
    (test (when _ c.not_word.ensures c.in_ok-refuse_if-2.ensures)
    (test (when _ (ap (λ x. not (eqb x 0)) c.mark_at.ensures ∙ m.is c.args.c) c.in_ok-refuse_if-3.ensures)
    (test (when _ c.too_deep.ensures c.in_ok-refuse_if-4.ensures) give)))
