use Rattle.book.proofs.StepLaws.{puts, waits}
use Rattle.steps.proofs.Sequence.{sees, then}
use Rattle.book.proofs.Lines.{part}
use Rattle.book.specs.Kept.{waiting_noted}
use Rattle.paper.specs.Deck.{fill}
use Rattle.paper.proofs.Kit.{cond, refl, ap, sym}
use Rattle.book.proofs.fill.Goals as goal

pub returns-then-waits : goal.returns-then-waits
unfolding fill
returns-then-waits c =
    λ y p rs l m. sees _ (part _ refl)
    (then (c.link_up.ensures rs _ l m)
    (then (puts _ _ c.put.ensures p) (waits _ (ap (λ w. waiting_noted c.args.notes (cond w c.args.c 0)) (sym c.if-waits.true)))))

pub returns-else-waits : goal.returns-else-waits
unfolding fill
returns-else-waits c =
    λ y p rs l m. sees _ (part _ refl)
    (then (c.link_up.ensures rs _ l m)
    (then (puts _ _ c.put.ensures p) (waits _ (ap (λ w. waiting_noted c.args.notes (cond w c.args.c 0)) (sym c.if-waits.false)))))
