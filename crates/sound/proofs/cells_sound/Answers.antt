use Rattle.paper.proofs.Kit.{true, false, refl, sym, ◌∙◌, arith, rules}
use Rattle.sound.proofs.StoreLaws.{pass-turn, pass-none, one-most, count_turn, count_none, pass-no, pass-yes}
use Rattle.sound.proofs.cells_sound.Goals as goal

pub loop-c-init : goal.loop-c-init
loop-c-init c = (search rules, refl, search rules)

pub returns-then-not-number_sound : goal.returns-then-not-number_sound
returns-then-not-number_sound c =
    let l = c.loop-c in
    let a = c.args in
    let f = sym c.if-not-number_sound.true ∙ c.number_sound.ensures in
    let p = pass-turn a.cells.now l.c c.loop-c-test.true _ a.end false f in
    pass-no a.cells.now a.end (sym (p ∙ l.invariant.1))

pub overflow_add-free : goal.overflow_add-free
overflow_add-free c = let e = c.from-free.ensures in omega (arith, one-most c.is_free.result)

pub loop-c-preserved : goal.loop-c-preserved
loop-c-preserved c =
    let l = c.loop-c in
    let a = c.args in
    let h = c.loop-c-test.true in
    let e = c.from-free.ensures in
    let f = sym c.if-not-number_sound.false ∙ c.number_sound.ensures in (
      omega (arith, one-most c.is_free.result),
      pass-turn a.cells.now l.c h _ a.end true f ∙ l.invariant.1,
      omega (arith, count_turn a.cells.now l.c h c.is_free.result c.is_free.ensures),
    )

pub returns : goal.returns
returns c =
    let l = c.loop-c in
    let a = c.args in
    pass-yes a.cells.now a.end l.free (sym l.invariant.1 ∙ pass-none a.cells.now l.c c.loop-c-test.false _ a.end)
    (omega (arith, count_none a.cells.now l.c c.loop-c-test.false))
