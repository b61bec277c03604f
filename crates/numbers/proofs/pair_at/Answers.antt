use Rattle.undo.proofs.Auto.{lines}
use Rattle.steps.proofs.Sequence.{same_err}
use Rattle.paper.specs.Process.{pair_at}
use Rattle.numbers.proofs.pair_at.Goals as goal

pub returns-in_err-t : goal.returns-in_err-t
unfolding pair_at
returns-in_err-t c = let e = c.in_err-t.ensures in rw (same_err c.from_residual.ensures.1) (search lines depth 20)

pub returns-in_err-u : goal.returns-in_err-u
unfolding pair_at
returns-in_err-u c =
    let h0 = c.in_ok-t.ensures in
    let e = c.in_err-u.ensures in
    rw (same_err c.from_residual-in_err-u.ensures.1) (search lines depth 20)

pub returns-then-not-alike : goal.returns-then-not-alike
unfolding pair_at
returns-then-not-alike c =
    let h0 = c.in_ok-t.ensures in
    let h1 = c.in_ok-u.ensures in
    search lines depth 20

pub returns : goal.returns
unfolding pair_at
returns c =
    let h0 = c.in_ok-t.ensures in
    let h1 = c.in_ok-u.ensures in
    search lines depth 20
