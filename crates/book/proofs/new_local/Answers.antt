use Rattle.book.proofs.StepLaws.{notes-local}
use Rattle.steps.proofs.Sequence.{bind, bind_err, give, then, same_err}
use Rattle.paper.specs.Deck.{new_local}
use Rattle.book.proofs.new_local.Goals as goal

pub returns-in_err-c : goal.returns-in_err-c
unfolding new_local
returns-in_err-c c =
    rw (same_err c.from_residual.ensures.1) (λ rs k m. bind_err _ (c.in_err-c.ensures rs k _ m))

pub returns : goal.returns
unfolding new_local
returns c =
    λ rs k m. bind _ (c.in_ok-c.ensures rs k _ m) (then (notes-local _ _ _ _ c.note.ensures c.new.ensures) give)
