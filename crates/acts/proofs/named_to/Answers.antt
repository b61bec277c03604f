use Rattle.undo.proofs.Auto.{lines}
use Rattle.steps.proofs.Sequence.{same_err}
use Rattle.acts.specs.Named.{named_to}
use Rattle.cells.specs.Layout.{word_of}
use Rattle.acts.proofs.Used.{r-far}
use Rattle.acts.proofs.named_to.Goals as goal

pub returns-then-c-gt-H3 : goal.returns-then-c-gt-H3
returns-then-c-gt-H3 c = r-far _ c.if-c-gt-H3.true _ word_of c.word_at.ensures

pub returns-in_err-w : goal.returns-in_err-w
unfolding named_to
returns-in_err-w c = let e = c.in_err-w.ensures in rw (same_err c.from_residual.ensures.1) (search lines depth 20)

pub returns-in_err-not_own : goal.returns-in_err-not_own
unfolding named_to
returns-in_err-not_own c = let h0 = c.in_ok-w.ensures in let e = c.in_err-not_own.ensures in rw (same_err c.from_residual-in_err-not_own.ensures.1) (search lines depth 20)

pub returns : goal.returns
unfolding named_to
returns c = let h0 = c.in_ok-w.ensures in let h1 = c.in_ok-not_own.ensures in search lines depth 20
