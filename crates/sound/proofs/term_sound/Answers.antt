use Rattle.sound.proofs.NumberLaws.{integer-sound, floating-sound}
use Rattle.sound.proofs.term_sound.Goals as goal

pub returns-then-x : goal.returns-then-x
returns-then-x c = integer-sound _ c.args.x c.requires.0 c.requires.1 c.if-x.true

pub returns : goal.returns
returns c = rw c.is_finite.ensures (floating-sound _ c.args.x c.requires.0 c.requires.1 c.if-x.false)
