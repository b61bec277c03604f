use Rattle.paper.specs.Act.{term_to, term_at}
use Rattle.cells.specs.Layout.{unpack_of, term_of}
use Rattle.acts.proofs.Used.{r-tally, r-other}
use Rattle.acts.proofs.term_to.Goals as goal

pub returns-then-c-eq-H3 : goal.returns-then-c-eq-H3
unfolding term_to term_at
returns-then-c-eq-H3 c = r-tally _ _ term_of unpack_of _ c.if-c-eq-H3.true c.target.ensures

pub returns : goal.returns
unfolding term_to term_at
returns c = r-other _ _ c.if-c-eq-H3.false c.term_at.ensures
