use Rattle.paper.proofs.Kit.{ℕ, ◌+◌, ◌*◌, ◌∙◌, arith, length, length-replicate}
use Rattle.paper.specs.Limits.{largest_n}
use Rattle.undo.proofs.Leaves.{end-from}
use Rattle.regions.specs.Table.{regions_of}
use Rattle.sound.proofs.SoundLaws.{size-range}
use Rattle.plain.proofs.Settled.{plain-unfit, plain-settled}
use Rattle.plain.proofs.plainly.Goals as goal

-- the places of the log, LOG of the code
abbrev places : ℕ
places = 2 * (largest_n + 3) + 5

pub act-outcome-requires : goal.act-outcome-requires
act-outcome-requires g c =
    let p = c.in-Ok.ensures in
    let n = size-range _ p.size in
    let b = c.begin in
    c.requires.1.0 _ _ _ _ (
      record { large = n.0; small = n.1 },
      record {
        fits = omega (arith, n.1, b.ensures.count, b.auto, length-replicate {A = ℕ} places 1);
        ends = end-from (regions_of c.args.regions) p.end;
      },
    )

pub settle-requires : goal.settle-requires
settle-requires g c =
    let t = c.act-outcome in
    let d = c.requires.1.1 _ _ _ _ _ _ _ _ t.ensures in
    let n = size-range (length c.args.cells.now) c.in-Ok.ensures.size in
    let b = c.begin in
    record { fits = omega (arith, d.kept.count, t.auto.arg3, n.1, b.ensures.count, b.auto, length-replicate {A = ℕ} places 1) }

pub returns-in-Err : goal.returns-in-Err
returns-in-Err g c =
    plain-unfit g.does _ _ c.in-Err.ensures

pub returns : goal.returns
returns g c =
    let t = c.act-outcome in
    let d = c.requires.1.1 _ _ _ _ _ _ _ _ t.ensures in
    c.settle.ensures ∙ plain-settled _ _ _ c.in-Ok.ensures c.begin.ensures t.result d
