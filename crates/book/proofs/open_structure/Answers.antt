use Rattle.book.proofs.StepLaws.{opens-structure}
use Rattle.steps.proofs.Sequence.{give, sees, then, same_err}
use Rattle.book.proofs.Lines.{part, test_at, test_at_err}
use Rattle.paper.specs.Deck.{cell_for}
use Rattle.paper.proofs.Kit.{refl, sym}
use Rattle.book.proofs.open_structure.Goals as goal

pub returns-in_err-closes : goal.returns-in_err-closes
unfolding cell_for
returns-in_err-closes c =
    rw (same_err c.from_residual.ensures.1) (λ s. test_at_err _ c.in_err-closes.ensures refl)

pub returns : goal.returns
unfolding cell_for
returns c =
    λ s. test_at c.in_ok-closes.ensures refl
    (sees _ (part _ (sym c.cell_of-c.ensures)) (then (opens-structure _ c.forget.ensures c.mark.ensures) give))
