use Rattle.deck.proofs.TableLaws.{listed, made_more}
use Rattle.deck.proofs.RecordLaws.{placed, faulty, lays, none-holds, or-stops}
use Rattle.deck.specs.Load.{Made}
use Rattle.steps.proofs.Sequence.{judged-no, judged-yes, sees, test, test_err}
use Rattle.book.proofs.Lines.{part}
use Rattle.regions.specs.Table.{regions_of}
use Rattle.paper.specs.Deck.{load_region}
use Rattle.paper.proofs.Kit.{ltb, length, ltb-false, or_assoc, ◌≡◌, refl, ap, sym, subst, ◌∙◌, ◌+◌, arith, rules}
use Rattle.deck.proofs.load_region.Goals as goal

pub returns-then-letter_taken-notes : goal.returns-then-letter_taken-notes
unfolding load_region
returns-then-letter_taken-notes c =
    let full = ltb (length c.args.cells.now) (c.top.result + c.args.n) in
    faulty
    (sees _ (part _ (sym c.letter_taken.ensures))
    (or-stops _ _ _ (sym (or_assoc c.letter_taken.result c.args.notes.words full) ∙ (rw c.from.ensures at c.if-letter_taken-notes.true))
    (λ e. sees _ (part _ refl)
    (or-stops _ _ _ e (λ e. sees _ (part _ (sym c.top.ensures)) (test_err _ (judged-yes _ _ e)))))))
    c.requires.0

pub returns : goal.returns
unfolding load_region
returns c =
    let z : (length c.args.regions.letters ≡ 23) × (length c.args.regions.counts ≡ 23) = (search rules, search rules) in
    let no = none-holds c.letter_taken.result c.args.notes.words _ (rw c.from.ensures at c.if-letter_taken-notes.false) in
    let new = sym c.letter_taken.ensures ∙ no.0 in
    let fits = ltb-false (length c.args.cells.now) (c.top.result + c.args.n) no.2 in
    let more = ap regions_of c.with-more.ensures ∙ listed c.args.regions _ _ z.0 z.1 c.requires.0 c.requires.2 new in
    placed refl
    (subst Made (sym c.with-more.ensures)
    (made_more c.args.regions _ _ z.0 z.1 c.requires.0 c.requires.2 new (omega (arith, c.top.ensures, c.requires.1.few))))
    (sees _ (part _ (sym c.letter_taken.ensures))
    (test (judged-no _ _ no.0)
    (sees _ (part _ refl)
    (test (judged-no _ _ no.1)
    (sees _ (part _ (sym c.top.ensures))
    (test (judged-no _ _ no.2) (lays _ _ _ more c.begin.ensures.0 c.begin.ensures.1)))))))
