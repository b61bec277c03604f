use Rattle.book.proofs.StepLaws.{notes-local}
use Rattle.steps.proofs.Sequence.{bind, bind_err, give, then, same_err}
use Rattle.paper.specs.Deck.{cell_for}
use Rattle.book.proofs.define_local.Goals as goal

pub returns-in_err-c : goal.returns-in_err-c
unfolding cell_for
returns-in_err-c c =
    rw (same_err c.from_residual.ensures.1) (λ rs k m. bind_err _ (c.in_err-c.ensures rs k m))

pub returns : goal.returns
unfolding cell_for
returns c =
    λ rs k m. bind _ (c.in_ok-c.ensures rs k m) (then (notes-local _ _ _ _ c.note.ensures c.new.ensures) give)
