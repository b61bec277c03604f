use Rattle.acts.proofs.Used.{r-zero, r-free}
use Rattle.cycle.specs.Order.{fetch}
use Rattle.cycle.proofs.FetchLaws.{by_word, by-process, by-term}
use Rattle.cycle.proofs.fetched.fetch.Goals as goal

pub returns-then-c-eq0 : goal.returns-then-c-eq0
unfolding fetch
returns-then-c-eq0 c = r-zero _ _ c.if-c-eq0.true

pub returns-then-is_word : goal.returns-then-is_word
returns-then-is_word c =
    by_word _ _ c.peek-x.ensures c.if-c-eq0.false c.is_word.ensures c.if-is_word.true c.word_in.ensures
    c.order_in.ensures

pub returns-then-is_free : goal.returns-then-is_free
unfolding fetch
returns-then-is_free c =
    r-free _ _ _ _ c.peek-x.ensures c.if-c-eq0.false c.is_free.ensures c.if-is_free.true

pub returns-then-is_process : goal.returns-then-is_process
returns-then-is_process c =
    by-process _ _ c.peek-x.ensures c.if-c-eq0.false c.is_free.ensures c.if-is_free.false c.is_process.ensures
    c.if-is_process.true c.regional.ensures

pub returns : goal.returns
returns c =
    by-term _ _ c.peek-x.ensures c.if-c-eq0.false c.is_free.ensures c.if-is_free.false c.is_process.ensures
    c.is_word.ensures c.if-is_word.false c.if-is_process.false
