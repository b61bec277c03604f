use Rattle.paper.proofs.Kit.{◌∙◌}
use Rattle.sound.proofs.NumberLaws.{number_word, number-free, number-term, number-process}
use Rattle.sound.proofs.number_sound.Goals as goal

pub returns-then-x-lt-FREE : goal.returns-then-x-lt-FREE
returns-then-x-lt-FREE c = rw c.word_sound.ensures (number_word _ _ _ _ c.if-x-lt-FREE.true)

pub returns-then-x-lt-TERM : goal.returns-then-x-lt-TERM
returns-then-x-lt-TERM c = number-free _ _ _ _ c.if-x-lt-FREE.false c.if-x-lt-TERM.true

pub term_sound-requires : goal.term_sound-requires
term_sound-requires c = (c.if-x-lt-TERM.false, c.if-x-lt-PROCESS.true)

pub returns-then-x-lt-PROCESS : goal.returns-then-x-lt-PROCESS
returns-then-x-lt-PROCESS c = c.term_sound.ensures ∙ number-term _ _ _ _ c.if-x-lt-TERM.false c.if-x-lt-PROCESS.true

pub returns : goal.returns
returns c = number-process _ _ _ _ c.if-x-lt-PROCESS.false
