use Rattle.paper.proofs.Kit.{refl, sym, ◌∙◌, arith}
use Rattle.paper.specs.Process.{next_cell}
use Rattle.undo.proofs.Auto.{lines}
use Rattle.steps.proofs.Sequence.{same_err, any, test, test_err, when, yes, else, most}
use Rattle.undo.proofs.Lines.{reads, looks}
use Rattle.undo.proofs.Leaves.{reserving}
use Rattle.lists.proofs.next_cell.Goals as goal

pub returns-in_err-v : goal.returns-in_err-v
unfolding next_cell
returns-in_err-v c = let e = c.in_err-v.ensures in rw (same_err c.from_residual.ensures.1) (search lines depth 20)

pub returns-in_err-refuse_if : goal.returns-in_err-refuse_if
unfolding next_cell
returns-in_err-refuse_if c =
    rw (same_err c.from_residual-in_err-refuse_if.ensures.1) (reads _ (any c.in_ok-v.ensures) (looks _ (reserving _ _ _ refl)
    (test_err _ (when _ c.reserved_end.ensures c.in_err-refuse_if.ensures))))

pub returns-in_err-not_own : goal.returns-in_err-not_own
unfolding next_cell
returns-in_err-not_own c =
    rw (same_err c.from_residual-in_err-not_own.ensures.1) (reads _ (any c.in_ok-v.ensures) (looks _ (reserving _ _ _ refl)
    (test (when _ c.reserved_end.ensures c.in_ok-refuse_if.ensures) (test_err _ c.in_err-not_own.ensures))))

pub returns-then-is_end : goal.returns-then-is_end
unfolding next_cell
returns-then-is_end c =
    reads _ (any c.in_ok-v.ensures) (looks _ (reserving _ _ _ refl) (test (when _ c.reserved_end.ensures c.in_ok-refuse_if.ensures)
    (test c.in_ok-not_own.ensures (yes _ (sym c.is_end.ensures ∙ c.if-is_end.true) c.drop_end.ensures))))

pub returns : goal.returns
unfolding next_cell
returns c =
    reads _ (any c.in_ok-v.ensures) (looks _ (reserving _ _ _ refl) (test (when _ c.reserved_end.ensures c.in_ok-refuse_if.ensures)
    (test c.in_ok-not_own.ensures (else _ (sym c.is_end.ensures ∙ c.if-is_end.false) (most 4 (omega arith) c.move_on.ensures)))))
