use Rattle.undo.proofs.Auto.{lines}
use Rattle.steps.proofs.Sequence.{same_err}
use Rattle.acts.specs.Net.{stays}
use Rattle.acts.proofs.stays.Goals as goal

pub returns-in_err-has_below : goal.returns-in_err-has_below
unfolding stays
returns-in_err-has_below c = let e = c.in_err-has_below.ensures in rw (same_err c.from_residual.ensures.1) (search lines depth 20)

pub returns-in_err-v : goal.returns-in_err-v
unfolding stays
returns-in_err-v c = let h0 = c.in_ok-has_below.ensures in let e = c.in_err-v.ensures in rw (same_err c.from_residual-in_err-v.ensures.1) (search lines depth 20)

pub returns-in_err-refuse_if : goal.returns-in_err-refuse_if
unfolding stays
returns-in_err-refuse_if c = let h0 = c.in_ok-has_below.ensures in let h1 = c.in_ok-v.ensures in let e = c.in_err-refuse_if.ensures in rw (same_err c.from_residual-in_err-refuse_if.ensures.1) (search lines depth 20)

pub returns-in_err-refuse_if-2 : goal.returns-in_err-refuse_if-2
unfolding stays
returns-in_err-refuse_if-2 c = let h0 = c.in_ok-has_below.ensures in let h1 = c.in_ok-v.ensures in let h2 = c.in_ok-refuse_if.ensures in let e = c.in_err-refuse_if-2.ensures in rw (same_err c.from_residual-in_err-refuse_if-2.ensures.1) (search lines depth 20)

pub returns : goal.returns
unfolding stays
returns c = let h0 = c.in_ok-has_below.ensures in let h1 = c.in_ok-v.ensures in let h2 = c.in_ok-refuse_if.ensures in let h3 = c.in_ok-refuse_if-2.ensures in search lines depth 20
