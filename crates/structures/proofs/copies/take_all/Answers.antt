use Rattle.paper.proofs.Kit.{◌<◌, ◌≡◌, refl, ap, arith, length, take}
use Rattle.cells.specs.Layout.{unpack_of}
use Rattle.structures.specs.Copies.{news_of}
use Rattle.structures.proofs.Holding.{only-blank}
use Rattle.structures.proofs.Lists.{once-at, news-more, only-more}
use Rattle.structures.proofs.Loops.{take-first, take_more, take-err, take-end}
use Rattle.structures.proofs.Whole.{take-whole}
use Rattle.structures.proofs.copies.take_all.Goals as goal

pub loop-i-init : goal.loop-i-init
loop-i-init c = (only-blank c.requires.1, take-first c.args.met.now)

pub take_as-requires : goal.take_as-requires
unfolding unpack_of
take_as-requires c = (record { fits = omega (arith, c.loop-i.invariant.1.count) }, refl)

pub returns-in-Err-clause-did : goal.returns-in-Err-clause-did
unfolding unpack_of
returns-in-Err-clause-did c =
    let l = c.loop-i in
    take-err _ _ (news_of l.marks (take l.i c.args.met.now)) l.invariant.1 (omega arith) c.in-Err.ensures

pub loop-i-preserved : goal.loop-i-preserved
unfolding unpack_of
loop-i-preserved c =
    let l = c.loop-i in
    let met = c.args.met.now in
    let h : l.i < length met = omega arith in
    let o = once-at met _ h c.requires.0 in (
      only-more met l.i _ h l.invariant.0,
      take_more _ _ (news_of l.marks (take l.i met)) l.invariant.1 h c.in-Ok.ensures (news-more l.marks met l.i _ h (omega arith) o),
    )

pub returns-clause-did : goal.returns-clause-did
returns-clause-did c =
    let l = c.loop-i in
    let met = c.args.met.now in
    let e : l.i ≡ length met = omega arith in
    take-end _ _ (news_of l.marks (take l.i met)) l.invariant.1 (omega arith) (omega arith) (ap (news_of l.marks) (take-whole met e))
