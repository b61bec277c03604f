use Rattle.paper.proofs.Kit.{◌+◌, ◌-◌, ◌≡◌, ap, sym, ◌∙◌, arith, length}
use Rattle.steps.proofs.Sequence.{same_err, most, alike}
use Rattle.paper.specs.Cycle.{execute}
use Rattle.cycle.specs.Reaches.{Past}
use Rattle.cycle.proofs.ReachLaws.{reach-then, reach-most, reach-follows, j1-begins, j1-left, j1-turn, j1-refused, j1-spent}
use Rattle.cycle.proofs.past.past_j1.Goals as goal

pub returns-then-not-is_j1 : goal.returns-then-not-is_j1
unfolding Past
returns-then-not-is_j1 c =
    let n = length c.args.cells.now + 1 - c.loop.counter in
    record {
      turns = n - 1;
      reaches = reach-most _ (omega arith) (reach-then (j1-begins _) (reach-then c.loop.invariant.2 (j1-left n _ (omega arith))));
      other = sym c.is_j1.ensures ∙ c.if-not-is_j1.true;
    }

pub returns-in_err-pop : goal.returns-in_err-pop
unfolding Past
returns-in_err-pop c =
    rw (same_err c.from_residual.ensures.1) (most _ (omega arith) (reach-follows (j1-begins _) (reach-follows c.loop.invariant.2
    (j1-refused _ _ (omega arith) (sym c.is_j1.ensures ∙ c.if-not-is_j1.false) c.own-w0.ensures c.in_err-pop.ensures))))

pub loop-preserved : goal.loop-preserved
loop-preserved c =
    let n = length c.args.cells.now + 1 - c.loop.counter in
    let p : n - 1 ≡ length c.args.cells.now + 1 - (c.loop.counter + 1) = omega arith in (
      omega arith,
      omega arith,
      rw (← p) (reach-then c.loop.invariant.2
          (j1-turn n _ (omega arith) (sym c.is_j1.ensures ∙ c.if-not-is_j1.false) c.own-w0.ensures c.symbol-y.ensures c.in_ok-pop.ensures)),
    )

pub returns : goal.returns
unfolding Past
returns c =
    let p : length c.args.cells.now + 1 - c.loop.counter ≡ 0 = omega arith in
    most _ (omega arith) (reach-follows (j1-begins _) (reach-follows c.loop.invariant.2
    (alike (sym (ap (λ n. execute n c.loop.y) p)) (j1-spent c.loop.y))))
