use Rattle.steps.proofs.Sequence.{else, give-as, sees, yes}
use Rattle.book.proofs.Lines.{part}
use Rattle.paper.specs.Deck.{LocalCell, mention}
use Rattle.paper.proofs.Kit.{ap, eq-eqb, ne_eqb, sym, refl, ◌∙◌}
use Rattle.book.proofs.mention.Goals as goal

pub returns-then-c-eq0 : goal.returns-then-c-eq0
unfolding mention
returns-then-c-eq0 c =
    let e = c.cell-c.ensures ∙ ap (λ (x : LocalCell). x.cell) c.local_at.ensures in
    λ rs k m. sees _ (part _ refl) (yes _ (eq-eqb _ _ (sym e ∙ c.if-c-eq0.true)) (c.new_local.ensures rs k m))

pub returns : goal.returns
unfolding mention
returns c =
    let e = c.cell-c.ensures ∙ ap (λ (x : LocalCell). x.cell) c.local_at.ensures in
    λ rs k m. sees _ (part _ refl) (else _ (ne_eqb _ _ (λ p. c.if-c-eq0.false (e ∙ p))) (give-as (sym e)))
