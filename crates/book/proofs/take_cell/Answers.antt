use Rattle.book.proofs.StepLaws.{takes}
use Rattle.steps.proofs.Sequence.{give, sees, test, test_err, then, same_err}
use Rattle.book.proofs.Lines.{part}
use Rattle.cells.specs.Bridge.{cell_in}
use Rattle.paper.specs.Deck.{take_cell}
use Rattle.paper.specs.Cell.{word_in}
use Rattle.paper.proofs.Kit.{ap, ◌∙◌}
use Rattle.book.proofs.take_cell.Goals as goal

pub returns-in_err-refuse_if : goal.returns-in_err-refuse_if
unfolding take_cell cell_in
returns-in_err-refuse_if c =
    rw (same_err c.from_residual.ensures.1)
    (λ rs k l m. sees _ (part _ (ap word_in c.peek.ensures ∙ c.word_in-h.ensures)) (test_err _ c.in_err-refuse_if.ensures))

pub returns : goal.returns
unfolding take_cell cell_in
returns c =
    λ rs k l m. sees _ (part _ (ap word_in c.peek.ensures ∙ c.word_in-h.ensures))
    (test c.in_ok-refuse_if.ensures
    (then (takes _ _ _ _ c.put.ensures c.put-2.ensures c.with_link.ensures c.peek-2.ensures c.free_link-next.ensures) give))
