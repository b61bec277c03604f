use Rattle.paper.proofs.Kit.{true, false, ◌∙◌, arith, rules}
use Rattle.regions.proofs.RegionLaws.{sound-turn, sound_none}
use Rattle.regions.proofs.Regions.regions_sound.Goals as goal

pub returns-then-not-letter_new-count : goal.returns-then-not-letter_new-count
returns-then-not-letter_new-count c =
    let l = c.loop-i in
    let k = c.from-count.ensures in
    let b = c.letter_new.ensures in
    sound-turn c.args.self l.i (omega arith) _ _ _ _ false b k c.if-not-letter_new-count.true ∙ l.invariant.1

pub loop-i-preserved : goal.loop-i-preserved
loop-i-preserved c =
    let l = c.loop-i in
    let k = c.from-count.ensures in
    let b = c.letter_new.ensures in
    let e = sound-turn c.args.self l.i (omega arith) _ _ _ _ true b k c.if-not-letter_new-count.false in
    (search rules, e ∙ l.invariant.1)

pub returns : goal.returns
returns c = let l = c.loop-i in sound_none c.args.self l.i (omega arith) _ _ ∙ l.invariant.1
