use Rattle.steps.proofs.Sequence.{any, sees}
use Rattle.book.proofs.Lines.{told_part}
use Rattle.paper.specs.Deck.{closes, all_words}
use Rattle.paper.proofs.Kit.{ap, sym, ◌∙◌}
use Rattle.book.proofs.closes.Goals as goal

pub returns : goal.returns
unfolding closes
returns c =
    sees _ (told_part _ (λ t h. ap all_words h ∙ sym c.all_words.ensures)) (any c.refuse_if.ensures)
