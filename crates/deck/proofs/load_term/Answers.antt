use Rattle.deck.proofs.RecordLaws.{placed, faulty}
use Rattle.steps.proofs.Sequence.{bind, bind_err, same_err}
use Rattle.book.proofs.Lines.{test_at, test_at_err}
use Rattle.paper.specs.Deck.{load_term}
use Rattle.paper.proofs.Kit.{refl}
use Rattle.deck.proofs.load_term.Goals as goal

pub returns-in_err-name_fits : goal.returns-in_err-name_fits
unfolding load_term
returns-in_err-name_fits c =
    rw (same_err c.from_residual.ensures.1)
    (faulty (test_at_err _ c.in_err-name_fits.ensures (record { regions = refl; opened = refl; locals = refl; names = refl; waiting = refl })) c.requires)

pub returns-in_err-notes : goal.returns-in_err-notes
unfolding load_term
returns-in_err-notes c =
    rw (same_err c.from_residual-in_err-notes.ensures.1)
    (faulty
    (test_at c.in_ok-name_fits.ensures (record { regions = refl; opened = refl; locals = refl; names = refl; waiting = refl })
    (bind_err _ c.in_err-notes.ensures))
    c.requires)

pub returns : goal.returns
unfolding load_term
returns c =
    placed refl c.requires
    (test_at c.in_ok-name_fits.ensures (record { regions = refl; opened = refl; locals = refl; names = refl; waiting = refl })
    (bind _ c.in_ok-notes.ensures (c.fill.ensures _ c.of_term.ensures _ _ _)))
