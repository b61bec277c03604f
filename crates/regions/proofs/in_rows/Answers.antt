use Rattle.paper.proofs.Kit.{ℕ, refl, ◌∙◌, ◌+◌, ◌<◌, arith, rules}
use Rattle.std.proofs.lemmas.List.{length-take}
use Rattle.regions.specs.Lent.{rows_of}
use Rattle.regions.proofs.LentLaws.{row_here, row_more, row-none, row_of}
use Rattle.regions.proofs.in_rows.Goals as goal

pub loop-x-init : goal.loop-x-init
unfolding rows_of
loop-x-init c = (search rules, refl)

pub returns-then-c-at : goal.returns-then-c-at
returns-then-c-at c =
    let l = c.loop-x in
    let t = c.args.table.now in
    let h : l.x-index < 23 = omega (arith, length-take {A = ℕ}) in
    let e = row_of t l.x-index h in
    rw e (row_here t (l.x-index + 1) l.at _ l.invariant.0 (omega arith) (omega arith) ∙ l.invariant.1)

pub loop-x-preserved : goal.loop-x-preserved
loop-x-preserved c =
    let l = c.loop-x in
    let t = c.args.table.now in
    let h : l.x-index < 23 = omega (arith, length-take {A = ℕ}) in
    let e = row_of t l.x-index h in
    rw e (omega arith, row_more t (l.x-index + 1) l.at _ l.invariant.0 (omega arith) (omega arith) ∙ l.invariant.1)

pub returns : goal.returns
returns c =
    let l = c.loop-x in
    row-none _ (l.x-index + 1) l.at _ l.invariant.0 (omega arith) ∙ l.invariant.1
