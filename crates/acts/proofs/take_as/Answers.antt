use Rattle.paper.proofs.Kit.{ap, sym}
use Rattle.undo.proofs.Auto.{lines}
use Rattle.undo.proofs.Leaves.{peeked}
use Rattle.undo.proofs.Lines.{looks, puts, once}
use Rattle.cells.specs.Layout.{word_of}
use Rattle.paper.specs.Cell.{word, with_link}
use Rattle.steps.proofs.Sequence.{same_err, test, then, alike, give}
use Rattle.paper.specs.Act.{take_as, put}
use Rattle.acts.proofs.take_as.Goals as goal

pub returns-in_err-refuse_if : goal.returns-in_err-refuse_if
unfolding take_as
returns-in_err-refuse_if c = let e = c.in_err-refuse_if.ensures in rw (same_err c.from_residual.ensures.1) (search lines depth 20)

pub returns : goal.returns
unfolding take_as
returns c =
    looks _ c.own-h.ensures (test c.in_ok-refuse_if.ensures (looks _ (peeked _ _ c.peek-x.ensures)
    (then (alike (ap (λ j. put 3 (word (with_link (word_of c.own-h.result) j))) (sym c.free_link.ensures))
    (puts _ c.with_link.ensures c.put.ensures)) (then (once _ _ c.put-2.ensures) give))))
