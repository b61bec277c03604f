use Rattle.paper.proofs.Kit.{lt-ltb, le-ltb}
use Rattle.deck.proofs.fresh.next_free.Goals as goal

pub returns-then-c-size : goal.returns-then-c-size
returns-then-c-size c = simp (lt-ltb _ _ c.if-c-size.true)

pub returns : goal.returns
returns c = simp (le-ltb _ _ c.if-c-size.false)
