use Rattle.steps.proofs.Sequence.{judged-yes, judged-no}
use Rattle.book.proofs.refuse_if.Goals as goal

pub returns-then-b : goal.returns-then-b
returns-then-b c = judged-yes _ _ c.if-b.true

pub returns : goal.returns
returns c = judged-no _ _ c.if-b.false
