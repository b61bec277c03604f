use Rattle.paper.specs.Act.{as_term, term_at}
use Rattle.acts.proofs.Used.{touching}
use Rattle.acts.proofs.term_at.Goals as goal

pub returns-then-c-eq0 : goal.returns-then-c-eq0
unfolding term_at as_term
returns-then-c-eq0 c = search touching depth 20

pub returns-then-is_term : goal.returns-then-is_term
unfolding term_at as_term
returns-then-is_term c = search (touching, c.if-c-eq0.false) depth 20

pub returns-then-is_free : goal.returns-then-is_free
unfolding term_at as_term
returns-then-is_free c = search (touching, c.if-c-eq0.false) depth 20

pub returns : goal.returns
unfolding term_at as_term
returns c = search (touching, c.if-c-eq0.false) depth 20
