use Rattle.deck.proofs.RecordLaws.{placed, faulty}
use Rattle.steps.proofs.Sequence.{alike, bind, bind_err, same_err}
use Rattle.book.proofs.Lines.{test_at, test_at_err}
use Rattle.paper.specs.Deck.{load_word, fill}
use Rattle.paper.proofs.Kit.{refl, ap}
use Rattle.deck.proofs.load_word.Goals as goal

pub returns-in_err-name_fits : goal.returns-in_err-name_fits
unfolding load_word
returns-in_err-name_fits c =
    rw (same_err c.from_residual.ensures.1)
    (faulty
    (test_at_err _ c.in_err-name_fits.ensures (record { regions = refl; opened = refl; locals = refl; names = refl; waiting = refl }))
    c.requires)

pub returns-in_err-known : goal.returns-in_err-known
unfolding load_word
returns-in_err-known c =
    rw (same_err c.from_residual-in_err-known.ensures.1)
    (faulty
    (test_at c.in_ok-name_fits.ensures (record { regions = refl; opened = refl; locals = refl; names = refl; waiting = refl })
    (test_at_err _ c.in_err-known.ensures refl))
    c.requires)

pub returns-in_err-known-2 : goal.returns-in_err-known-2
unfolding load_word
returns-in_err-known-2 c =
    rw (same_err c.from_residual-in_err-known-2.ensures.1)
    (faulty
    (test_at c.in_ok-name_fits.ensures (record { regions = refl; opened = refl; locals = refl; names = refl; waiting = refl })
    (test_at c.in_ok-known.ensures refl
    (test_at_err _ c.in_err-known-2.ensures refl)))
    c.requires)

pub returns-in_err-notes : goal.returns-in_err-notes
unfolding load_word
returns-in_err-notes c =
    rw (same_err c.from_residual-in_err-notes.ensures.1)
    (faulty
    (test_at c.in_ok-name_fits.ensures (record { regions = refl; opened = refl; locals = refl; names = refl; waiting = refl })
    (test_at c.in_ok-known.ensures refl
    (test_at c.in_ok-known-2.ensures refl
    (bind_err _ c.in_err-notes.ensures))))
    c.requires)

pub returns-in_err-symb : goal.returns-in_err-symb
unfolding load_word
returns-in_err-symb c =
    rw (same_err c.from_residual-in_err-symb.ensures.1)
    (faulty
    (test_at c.in_ok-name_fits.ensures (record { regions = refl; opened = refl; locals = refl; names = refl; waiting = refl })
    (test_at c.in_ok-known.ensures refl
    (test_at c.in_ok-known-2.ensures refl
    (bind _ c.in_ok-notes.ensures
    (bind_err _ (c.in_err-symb.ensures _ _))))))
    c.requires)

pub returns-in_err-link : goal.returns-in_err-link
unfolding load_word
returns-in_err-link c =
    rw (same_err c.from_residual-in_err-link.ensures.1)
    (faulty
    (test_at c.in_ok-name_fits.ensures (record { regions = refl; opened = refl; locals = refl; names = refl; waiting = refl })
    (test_at c.in_ok-known.ensures refl
    (test_at c.in_ok-known-2.ensures refl
    (bind _ c.in_ok-notes.ensures
    (bind _ (c.in_ok-symb.ensures _ _)
    (bind_err _ (c.in_err-link.ensures _ _)))))))
    c.requires)

pub returns : goal.returns
unfolding load_word
returns c =
    placed refl c.requires
    (test_at c.in_ok-name_fits.ensures (record { regions = refl; opened = refl; locals = refl; names = refl; waiting = refl })
    (test_at c.in_ok-known.ensures refl
    (test_at c.in_ok-known-2.ensures refl
    (bind _ c.in_ok-notes.ensures
    (bind _ (c.in_ok-symb.ensures _ _)
    (bind _ (c.in_ok-link.ensures _ _)
    (alike (ap (fill _ _) c.is_blank.ensures) (c.fill.ensures _ c.of_fields-x.ensures _ _ _))))))))
