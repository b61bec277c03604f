use Rattle.paper.proofs.Kit.{◌/◌, ◌%◌, ap, arith}
use Rattle.paper.specs.Process.{J64}
use Rattle.paper.specs.Act.{link_below}
use Rattle.cells.specs.Layout.{word_of}
use Rattle.acts.proofs.Auto.{acting}
use Rattle.steps.proofs.Sequence.{same_err, any, any-sees, test, then, then_err, alike, most}
use Rattle.undo.proofs.Auto.{w3}
use Rattle.undo.proofs.Lines.{looks, reads}
use Rattle.lists.proofs.Words.{plain}
use Rattle.lists.proofs.j64.Goals as goal

pub returns-in_err-w1 : goal.returns-in_err-w1
unfolding J64
returns-in_err-w1 c = let e = c.in_err-w1.ensures in rw (same_err c.from_residual.ensures.1) (search acting depth 20)

pub returns-in_err-w : goal.returns-in_err-w
unfolding J64
returns-in_err-w c =
    let h0 = c.in_ok-w1.ensures in
    let e = c.in_err-w.ensures in
    rw (same_err c.from_residual-in_err-w.ensures.1) (search acting depth 20)

pub returns-in_err-not_own : goal.returns-in_err-not_own
unfolding J64
returns-in_err-not_own c =
    let h0 = c.in_ok-w1.ensures in
    let h1 = c.in_ok-w.ensures in
    let e = c.in_err-not_own.ensures in
    rw (same_err c.from_residual-in_err-not_own.ensures.1) (search acting depth 20)

pub returns-in_err-link_below : goal.returns-in_err-link_below
unfolding J64
returns-in_err-link_below c =
    rw (same_err c.from_residual-in_err-link_below.ensures.1) (looks _ (any-sees c.own-w0.ensures) (reads _ (any c.in_ok-w1.ensures)
    (reads _ (any c.in_ok-w.ensures) (test c.in_ok-not_own.ensures
    (most 4 (omega arith) (then_err _ (most 2 (w3 (c.in_ok-w1.w1 / 65536 % 65536))
    (any (alike (ap (link_below _ _) (plain (word_of c.own-w0.result) c.of_fields-v.ensures c.symbol-x.ensures)) c.in_err-link_below.ensures)))))))))

pub returns : goal.returns
unfolding J64
returns c =
    looks _ (any-sees c.own-w0.ensures) (reads _ (any c.in_ok-w1.ensures) (reads _ (any c.in_ok-w.ensures) (test c.in_ok-not_own.ensures
    (then (most 2 (w3 (c.in_ok-w1.w1 / 65536 % 65536))
    (any (alike (ap (link_below _ _) (plain (word_of c.own-w0.result) c.of_fields-v.ensures c.symbol-x.ensures)) c.in_ok-link_below.ensures)))
    c.pops.ensures))))
