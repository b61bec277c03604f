use Rattle.undo.proofs.Auto.{lines}
use Rattle.steps.proofs.Sequence.{same_err, bind, test, when, give-as}
use Rattle.cells.proofs.Laws.{link-in}
use Rattle.cells.specs.Layout.{unpack_of}
use Rattle.paper.specs.Cycle.{link_of}
use Rattle.cycle.proofs.control.link_of.Goals as goal

pub returns-in_err-x : goal.returns-in_err-x
unfolding link_of
returns-in_err-x c = let e = c.in_err-x.ensures in rw (same_err c.from_residual.ensures.1) (search lines depth 20)

pub returns-in_err-refuse_if : goal.returns-in_err-refuse_if
unfolding link_of
returns-in_err-refuse_if c = let h0 = c.in_ok-x.ensures in let e = c.in_err-refuse_if.ensures in rw (same_err c.from_residual-in_err-refuse_if.ensures.1) (search lines depth 20)

pub returns-in_err-not_own : goal.returns-in_err-not_own
unfolding link_of
returns-in_err-not_own c =
    let h0 = c.in_ok-x.ensures in
    let h1 = c.in_ok-refuse_if.ensures in
    let e = c.in_err-not_own.ensures in
    rw (same_err c.from_residual-in_err-not_own.ensures.1) (search lines depth 20)

pub returns : goal.returns
unfolding link_of
returns c =
    bind _ c.in_ok-x.ensures (test (when _ c.is_term.ensures c.in_ok-refuse_if.ensures)
    (test c.in_ok-not_own.ensures (give-as (link-in (unpack_of c.in_ok-x.x) c.word_in-w.result c.word_in-w.ensures))))
