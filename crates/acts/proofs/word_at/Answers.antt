use Rattle.paper.specs.Act.{as_word, word_at}
use Rattle.acts.proofs.Used.{touching}
use Rattle.acts.proofs.word_at.Goals as goal

pub returns-then-c-eq0 : goal.returns-then-c-eq0
unfolding word_at as_word
returns-then-c-eq0 c = search touching depth 20

pub returns-then-is_word : goal.returns-then-is_word
unfolding word_at as_word
returns-then-is_word c = search (touching, c.if-c-eq0.false) depth 20

pub returns-then-is_free : goal.returns-then-is_free
unfolding word_at as_word
returns-then-is_free c = search (touching, c.if-c-eq0.false) depth 20

pub returns : goal.returns
unfolding word_at as_word
returns c = search (touching, c.if-c-eq0.false) depth 20
