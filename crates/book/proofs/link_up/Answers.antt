use Rattle.book.proofs.StepLaws.{links, links-not}
use Rattle.steps.proofs.Sequence.{else, give, yes}
use Rattle.paper.proofs.Kit.{eq-eqb, ne_eqb}
use Rattle.book.proofs.link_up.Goals as goal

pub returns-then-w-eq0 : goal.returns-then-w-eq0
returns-then-w-eq0 c = λ rs k l m. yes _ (eq-eqb _ _ c.if-w-eq0.true) give

pub returns-then-x-lt-FREE : goal.returns-then-x-lt-FREE
returns-then-x-lt-FREE c =
    λ rs k l m. else _ (ne_eqb _ _ c.if-w-eq0.false)
    (links _ _ _ _ c.put.ensures c.peek-x.ensures c.if-x-lt-FREE.true c.with_link.ensures)

pub returns-else-x-lt-FREE : goal.returns-else-x-lt-FREE
returns-else-x-lt-FREE c =
    λ rs k l m. else _ (ne_eqb _ _ c.if-w-eq0.false) (links-not _ _ _ c.peek-x.ensures c.if-x-lt-FREE.false)
