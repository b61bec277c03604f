use Rattle.paper.proofs.Kit.{ℕ, ◌∙◌, ◌<◌, arith, rules, get_or-take}
use Rattle.std.proofs.lemmas.List.{length-take}
use Rattle.regions.proofs.RegionLaws.{end_more, end_none}
use Rattle.regions.proofs.Regions.top.Goals as goal

pub loop-count-preserved : goal.loop-count-preserved
loop-count-preserved c =
    let l = c.loop-count in
    let r = c.args.self in
    let h : l.count-index < c.len.result = omega (arith, length-take {A = ℕ}) in
    (search rules, end_more r l.count-index (omega arith) _ _ (c.from-at.ensures ∙ get_or-take _ r.counts _ 0 h) ∙ l.invariant.1)

pub returns : goal.returns
returns c =
    let l = c.loop-count in
    end_none c.args.self l.count-index (omega (arith, length-take {A = ℕ})) _ ∙ l.invariant.1
