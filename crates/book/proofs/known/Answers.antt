use Rattle.steps.proofs.Sequence.{alike, any, give, sees}
use Rattle.book.proofs.Lines.{by-case, told_part}
use Rattle.paper.specs.Region.{cell_of}
use Rattle.paper.specs.declared.Field.{Field}
use Rattle.paper.specs.declared.Field.TheVariants.{Regional, Local, Zero, Blank}
use Rattle.paper.specs.Step.{ret}
use Rattle.paper.specs.Deck.{known}
use Rattle.paper.proofs.Kit.{ℕ, ◌≡◌, refl, ap, sym, ◌∙◌}
use Rattle.book.proofs.known.Goals as goal

-- any other is known
others : (f : Field) → ((b n : ℕ) → f ≡ Regional b n → ⊥) → ret tt ≡ known f
unfolding known
others (Regional b n) h = absurd (h b n refl)
others (Local n) h = refl
others Zero h = refl
others Blank h = refl

pub returns-in-Regional : goal.returns-in-Regional
unfolding known
returns-in-Regional c =
    by-case known c.in-Regional.is
    (sees _ (told_part _ (λ t h. ap (λ rs. cell_of rs c.in-Regional.b c.in-Regional.n) h ∙ sym c.cell_of.ensures))
    (any c.refuse_if.ensures))

pub returns-in_default : goal.returns-in_default
unfolding known
returns-in_default c = alike (others c.args.f c.in_default.not-Regional) give
