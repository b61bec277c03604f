use Rattle.undo.proofs.Auto.{lines}
use Rattle.undo.proofs.Lines.{looks, reads, meets}
use Rattle.steps.proofs.Sequence.{any, any-sees, then, then_err, most, alike, same_err}
use Rattle.paper.specs.Process.{combines}
use Rattle.paper.specs.Act.{gives}
use Rattle.paper.proofs.Kit.{ap, arith}
use Rattle.numbers.proofs.combines.Goals as goal

pub returns-in_err-w1 : goal.returns-in_err-w1
unfolding combines
returns-in_err-w1 c = let e = c.in_err-w1.ensures in rw (same_err c.from_residual.ensures.1) (search lines depth 20)

pub returns-in_err-w2 : goal.returns-in_err-w2
unfolding combines
returns-in_err-w2 c =
    let h0 = c.in_ok-w1.ensures in
    let e = c.in_err-w2.ensures in
    rw (same_err c.from_residual-in_err-w2.ensures.1) (search lines depth 20)

pub returns-in_err-term_to : goal.returns-in_err-term_to
unfolding combines
returns-in_err-term_to c =
    let h0 = c.in_ok-w1.ensures in
    let h1 = c.in_ok-w2.ensures in
    let e = c.in_err-term_to.ensures in
    rw (same_err c.from_residual-in_err-term_to.ensures.1) (search lines depth 20)

pub returns-in_err-p : goal.returns-in_err-p
unfolding combines
returns-in_err-p c =
    let h0 = c.in_ok-w1.ensures in
    let h1 = c.in_ok-w2.ensures in
    let h2 = c.in_ok-term_to.ensures in
    let e = c.in_err-p.ensures in
    rw (same_err c.from_residual-in_err-p.ensures.1) (search lines depth 20)

pub returns-in_err-put_term : goal.returns-in_err-put_term
unfolding combines
returns-in_err-put_term c =
    rw (same_err c.from_residual-in_err-put_term.ensures.1)
    (looks _ (any-sees c.own-w0.ensures) (reads _ (any c.in_ok-w1.ensures) (reads _ (any c.in_ok-w2.ensures)
    (meets (any c.in_ok-term_to.ensures) (reads _ (any c.in_ok-p.ensures)
    (most 5 (omega arith) (then_err _ (any (c.in_err-put_term.ensures _ c.combined.ensures)))))))))

pub returns : goal.returns
unfolding combines
returns c =
    looks _ (any-sees c.own-w0.ensures) (reads _ (any c.in_ok-w1.ensures) (reads _ (any c.in_ok-w2.ensures)
    (meets (any c.in_ok-term_to.ensures) (reads _ (any c.in_ok-p.ensures)
    (then (any (c.in_ok-put_term.ensures _ c.combined.ensures)) (alike (ap (gives 3) c.symbol.ensures) c.gives3.ensures))))))
