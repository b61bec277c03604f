use Rattle.deck.proofs.RecordLaws.{starts}
use Rattle.steps.proofs.Sequence.{same_err, sees, test, test_err}
use Rattle.book.proofs.Lines.{part, test_at, test_at_err}
use Rattle.paper.specs.Deck.{load_start}
use Rattle.paper.proofs.Kit.{refl, sym}
use Rattle.deck.proofs.load_start.Goals as goal

pub returns-in_err-refuse_if : goal.returns-in_err-refuse_if
unfolding load_start
returns-in_err-refuse_if c =
    rw (same_err c.from_residual.ensures.1) (λ m. sees _ (part _ refl) (test_err _ c.in_err-refuse_if.ensures))

pub returns-in_err-known : goal.returns-in_err-known
unfolding load_start
returns-in_err-known c =
    rw (same_err c.from_residual-in_err-known.ensures.1)
    (λ m. sees _ (part _ refl) (test c.in_ok-refuse_if.ensures (test_at_err _ c.in_err-known.ensures refl)))

pub returns-in_err-closes : goal.returns-in_err-closes
unfolding load_start
returns-in_err-closes c =
    rw (same_err c.from_residual-in_err-closes.ensures.1)
    (λ m. sees _ (part _ refl) (test c.in_ok-refuse_if.ensures (test_at c.in_ok-known.ensures refl (test_at_err _ c.in_err-closes.ensures refl))))

pub returns : goal.returns
unfolding load_start
returns c =
    λ m. sees _ (part _ refl)
    (test c.in_ok-refuse_if.ensures
    (test_at c.in_ok-known.ensures refl
    (test_at c.in_ok-closes.ensures refl
    (sees _ (part _ (sym c.cell_of-c.ensures))
    (starts _ _ _ c.put.ensures c.put-2.ensures c.of_fields.ensures c.of_fields-2.ensures)))))
