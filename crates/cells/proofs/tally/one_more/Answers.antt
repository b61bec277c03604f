use Rattle.cells.proofs.CountLaws.{next-number, next-bits, last-bits, packs-next, integer-of, integer-none}
use Rattle.paper.proofs.Kit.{arith, refl, ap, ◌∙◌, sym, add-one, ◌+◌, ◌%◌, ◌^◌, pos, ◌+ℤ◌}
use Rattle.paper.specs.Cell.{term_in}
use Rattle.paper.specs.Term.{integer_in}
use Rattle.paper.specs.Cycle.{wrapped}
use Rattle.cells.specs.Layout.{unpack_of, value_of}
use Rattle.cells.proofs.tally.one_more.Goals as goal

pub overflow_add-result : goal.overflow_add-result
overflow_add-result c = let l = c.if-x-lt-LAST.true in omega arith

pub returns-then-x-lt-LAST : goal.returns-then-x-lt-LAST
returns-then-x-lt-LAST c = next-number c.args.x c.if-x-ge-TERM.true c.if-x-lt-LAST.true

pub returns-then-t-eq-LARGEST : goal.returns-then-t-eq-LARGEST
returns-then-t-eq-LARGEST c =
    let r = c.term_in-t.result in
    let e = c.if-t-eq-LARGEST.true in
    packs-next (term_in (unpack_of c.args.x)) (r % 2 ^ 33) (2 ^ 31)
    (ap integer_in c.term_in-t.ensures ∙ integer-of r (omega (arith, e))) (ap (λ a. wrapped (value_of a +ℤ pos 1)) e ∙ last-bits) c.of_integer.ensures

pub returns-then-t-lt-LARGEST : goal.returns-then-t-lt-LARGEST
returns-then-t-lt-LARGEST c =
    let r = c.term_in-t.result in
    let l = c.if-t-lt-LARGEST.true in
    packs-next (term_in (unpack_of c.args.x)) (r % 2 ^ 33) (r % 2 ^ 33 + 1)
    (ap integer_in c.term_in-t.ensures ∙ integer-of r (omega (arith, l))) (next-bits (r % 2 ^ 33) (omega (arith, l)) ∙ ap value_of (sym (add-one (r % 2 ^ 33))))
    c.of_integer-then-t-lt-LARGEST.ensures

pub returns : goal.returns
returns c =
    let r = c.term_in-t.result in
    packs-next (term_in (unpack_of c.args.x)) (2 ^ 31) (2 ^ 31 + 1)
    (ap integer_in c.term_in-t.ensures ∙ integer-none r (omega (arith, c.if-t-lt-LARGEST.false, c.if-t-eq-LARGEST.false))) refl c.of_integer-2.ensures
