use Rattle.paper.specs.Act.{word_to, word_at}
use Rattle.cells.specs.Layout.{unpack_of, word_of}
use Rattle.acts.proofs.Used.{r-tally, r-other}
use Rattle.acts.proofs.word_to.Goals as goal

pub returns-then-c-eq-H3 : goal.returns-then-c-eq-H3
unfolding word_to word_at
returns-then-c-eq-H3 c = r-tally _ _ word_of unpack_of _ c.if-c-eq-H3.true c.target.ensures

pub returns : goal.returns
unfolding word_to word_at
returns c = r-other _ _ c.if-c-eq-H3.false c.word_at.ensures
