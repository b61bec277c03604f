use Rattle.paper.proofs.Kit.{◌<◌, ◌≡◌, refl, ◌∙◌, arith, rules, length}
use Rattle.regions.specs.Table.{regions_of}
use Rattle.regions.proofs.RegionLaws.{end_more, end_none}
use Rattle.regions.proofs.LentLaws.{no_rows, row-added, tells}
use Rattle.regions.proofs.Regions.table.Goals as goal

pub loop-i-init : goal.loop-i-init
loop-i-init c = (search rules, refl, no_rows _)

pub loop-i-preserved : goal.loop-i-preserved
loop-i-preserved c =
    let l = c.loop-i in
    let r = c.args.self in
    let h : l.i < length (regions_of r) = omega arith in (
      search rules,
      end_more r l.i h _ _ c.from-at.ensures ∙ l.invariant.1,
      row-added r l.i l.t _ (omega arith) l.invariant.2 c.row.ensures,
    )

pub returns : goal.returns
returns c =
    let l = c.loop-i in
    let r = c.args.self in
    let m : l.i ≡ length (regions_of r) = omega arith in
    tells r l.i l.at l.t m l.invariant.2 (end_none r l.i (omega arith) _ ∙ l.invariant.1)
