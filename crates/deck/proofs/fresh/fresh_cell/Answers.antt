use Rattle.paper.proofs.Kit.{add-one, ap, ◌∙◌, sym, arith}
use Rattle.paper.specs.Deck.{next_free}
use Rattle.paper.proofs.FreshLaws.{f-zero, f-H2, f-H3, f-HW, f-J, f-region, f-free}
use Rattle.deck.proofs.FreshLaws.{packs-as, empty-packs}
use Rattle.paper.specs.declared.Symbol.{Symbol}
use Rattle.paper.specs.Cell.{word, free, mk_word, empty_word}
use Rattle.deck.proofs.fresh.fresh_cell.Goals as goal

pub returns-then-c-end : goal.returns-then-c-end
returns-then-c-end c = packs-as (f-region _ _ _ c.if-c-ge-FIRST_DECK.true c.if-c-end.true) empty-packs

pub returns-then-c-ge-FIRST_DECK : goal.returns-then-c-ge-FIRST_DECK
returns-then-c-ge-FIRST_DECK c =
    let a = c.args in
    packs-as
    (f-free _ _ _ c.if-c-ge-FIRST_DECK.true c.if-c-end.false ∙ ap free (sym (c.next_free.ensures ∙ ap (next_free a.size) (add-one a.c)))) c.of_free.ensures

pub returns-in-0 : goal.returns-in-0
returns-in-0 c = packs-as (f-zero _ _ _ (omega arith)) c.of_fields.ensures

pub returns-in-3 : goal.returns-in-3
returns-in-3 c =
    packs-as
    (f-H2 _ _ _ (omega arith) ∙ ap (λ n. word (empty_word n)) (sym c.next_free-in-3.ensures)
    ∙ ap (λ (x : Symbol). word (mk_word 0 x.tag x.num c.next_free-in-3.result)) (sym c.empty-x.ensures))
    c.of_fields-in-3.ensures

pub returns-in-4 : goal.returns-in-4
returns-in-4 c = packs-as (f-H3 _ _ _ (omega arith)) c.of_integer.ensures

pub returns-in_default : goal.returns-in_default
returns-in_default c =
    packs-as (f-HW _ _ _ (λ e. omega arith) (λ e. omega arith) (λ e. omega arith) (omega arith)) empty-packs

pub returns-in-21-to-max : goal.returns-in-21-to-max
returns-in-21-to-max c = packs-as (f-J _ _ _ (omega arith) c.if-c-ge-FIRST_DECK.false) c.of_process.ensures
