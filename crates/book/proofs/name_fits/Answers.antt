use Rattle.steps.proofs.Sequence.{any, sees, when}
use Rattle.book.proofs.Lines.{by-case, or-tells, told_part}
use Rattle.records.specs.Symbols.{name_of}
use Rattle.paper.specs.declared.Fault.TheVariants.{BadName}
use Rattle.paper.specs.Limits.{first_deck}
use Rattle.paper.specs.Region.{cell_of}
use Rattle.paper.specs.Deck.{LocalCell, name_fits, local_at}
use Rattle.paper.proofs.Kit.{◌||◌, get_or, eqb, ltb, ℕ, Bool, true, false, not, ◌&&◌, or_assoc, ◌≡◌, refl, ap, sym, ◌∙◌, eqb-true}
use Rattle.book.proofs.name_fits.Goals as goal

-- no cell is one below those of the deck
none-low : (c : ℕ) (d : Bool) → (ltb c first_deck || d) ≡ (eqb c 0 || (ltb c first_deck || d))
none-low c d = go (eqb c 0) refl
  where
    go : (t : Bool) → eqb c 0 ≡ t → (ltb c first_deck || d) ≡ (t || (ltb c first_deck || d))
    go true e = rw (eqb-true c 0 e)
    go false e = refl

pub returns-in-Regional : goal.returns-in-Regional
unfolding name_fits
returns-in-Regional c =
    let w = not (eqb c.args.notes.waiting 0) in
    let x = c.cell_of-c.result in
    by-case (λ x. name_fits c.args.word (name_of x)) c.in-Regional.is
    (sees _ (told_part _ (λ t h. h.waiting))
    (or-tells _ _ _ (any (when BadName (or_assoc w (ltb x first_deck) c.named.result) c.refuse_if.ensures))
    (λ d. sees _ (told_part _ (λ t h. ap (λ rs. cell_of rs c.in-Regional.b c.in-Regional.n) h.regions ∙ sym c.cell_of-c.ensures))
    (or-tells _ _ _ (when BadName (none-low x c.named.result) d)
    (λ d. or-tells _ _ _ d (λ d. sees _ (told_part _ (λ t h. ap (λ m. get_or m x false) h.names ∙ sym c.named.ensures)) d))))))

pub returns-in-Local : goal.returns-in-Local
unfolding name_fits
returns-in-Local c =
    let w = not (eqb c.args.notes.waiting 0) && not c.args.word in
    by-case (λ x. name_fits c.args.word (name_of x)) c.in-Local.is
    (sees _ (told_part _ (λ t h. h.waiting))
    (or-tells _ _ _
    (any (when BadName (or_assoc w (not c.args.notes.opened) c.has_word.result) c.refuse_if-in-Local.ensures))
    (λ d. sees _ (told_part _ (λ t h. h.opened))
    (or-tells _ _ _ d
    (λ d. sees _ (told_part _ (λ t h. ap (λ ls. local_at ls c.in-Local.n) h.locals))
    (when BadName (c.has_word.ensures ∙ ap (λ (x : LocalCell). x.has_word) c.local_at.ensures) d))))))

pub returns-in-Blank : goal.returns-in-Blank
unfolding name_fits
returns-in-Blank c =
    by-case (λ x. name_fits c.args.word (name_of x)) c.in-Blank.is
    (sees _ (told_part _ (λ t h. h.waiting)) (or-tells _ _ _ (any c.refuse_if-in-Blank.ensures) (λ d. d)))
