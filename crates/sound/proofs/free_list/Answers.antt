use Rattle.paper.proofs.Kit.{true, false, refl, sym, ◌∙◌, ◌-◌, ◌+◌, arith}
use Rattle.sound.proofs.StoreLaws.{list-turn, list-end}
use Rattle.sound.proofs.free_list.Goals as goal

pub returns-then-c-is_free : goal.returns-then-c-is_free
returns-then-c-is_free c =
    let l = c.loop in
    let k = c.args.k in
    list-turn c.args.cells.now (k - l.counter) (k - (l.counter + 1)) l.c _ _ _ true (omega arith) c.number_at-x.ensures c.is_free.ensures refl c.if-c-is_free.true
    ∙ l.invariant

pub loop-preserved : goal.loop-preserved
loop-preserved c =
    let l = c.loop in
    let k = c.args.k in
    let g = c.free_link.ensures ∙ sym c.from-c.ensures in
    list-turn c.args.cells.now (k - l.counter) (k - (l.counter + 1)) l.c _ _ _ false (omega arith) c.number_at-x.ensures c.is_free.ensures g c.if-c-is_free.false
    ∙ l.invariant

pub returns : goal.returns
returns c = let l = c.loop in list-end c.args.cells.now (c.args.k - l.counter) l.c (omega arith) ∙ l.invariant
