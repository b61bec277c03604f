use Rattle.paper.proofs.Kit.{ap, arith}
use Rattle.paper.specs.Process.{J63}
use Rattle.paper.specs.Act.{store}
use Rattle.acts.proofs.Auto.{acting}
use Rattle.steps.proofs.Sequence.{same_err, any, any-sees, then, then_err, alike, most}
use Rattle.undo.proofs.Lines.{looks, reads}
use Rattle.lists.proofs.j63.Goals as goal

pub returns-in_err-w1 : goal.returns-in_err-w1
unfolding J63
returns-in_err-w1 c = let e = c.in_err-w1.ensures in rw (same_err c.from_residual.ensures.1) (search acting depth 20)

pub returns-in_err-preserve : goal.returns-in_err-preserve
unfolding J63
returns-in_err-preserve c =
    let h0 = c.in_ok-w1.ensures in
    let e = c.in_err-preserve.ensures in
    rw (same_err c.from_residual-in_err-preserve.ensures.1) (search acting depth 20)

pub returns-in_err-store : goal.returns-in_err-store
unfolding J63
returns-in_err-store c =
    rw (same_err c.from_residual-in_err-store.ensures.1) (looks _ (any-sees c.own-w0.ensures) (reads _ (any c.in_ok-w1.ensures)
    (most 5 (omega arith) (then (any c.in_ok-preserve.ensures) (then_err _ (any (alike (ap (store _) c.symbol.ensures) c.in_err-store.ensures)))))))

pub returns : goal.returns
unfolding J63
returns c =
    looks _ (any-sees c.own-w0.ensures) (reads _ (any c.in_ok-w1.ensures) (then (any c.in_ok-preserve.ensures)
    (then (any (alike (ap (store _) c.symbol.ensures) c.in_ok-store.ensures)) c.pops.ensures)))
