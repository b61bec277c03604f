use Rattle.paper.proofs.Kit.{◌-◌, ◌<◌, ◌≡◌, refl, ap, subst, ◌∙◌, sym, arith}
use Rattle.paper.specs.Run.{is_finished, run_from}
use Rattle.cycle.specs.Turns.{state_at, Came}
use Rattle.machine.specs.declared.Ran.{Ran}
use Rattle.machine.specs.Numbers.{numbers}
use Rattle.machine.proofs.RunLaws.{run-finishes, run-spent, run-stops, run-goes, begins, closes, past-later}
use Rattle.machine.proofs.cycles.Goals as goal

pub loop-budget-init : goal.loop-budget-init
loop-budget-init c = (
  c.requires.0,
  c.requires.1,
  omega arith,
  omega arith,
  refl,
  refl,
  refl,
  refl,
  λ rs w. begins rs (c.args.cells.now) (c.args.out.now) (c.args.budget),
)

pub returns-then-done-budget : goal.returns-then-done-budget
unfolding is_finished
returns-then-done-budget c =
    λ rs w.
    let t = state_at rs c.loop-budget.cells c.loop-budget.out c.loop-budget.at in
    let none : c.args.budget - c.loop-budget.done ≡ 0 = omega (arith, c.if-done-budget.true) in
    ap (λ (r : Ran). numbers r c.loop-budget.cells c.loop-budget.out) c.came_to.ensures
    ∙ closes rs c.args.budget _ c.args.cells.now c.args.out.now c.loop-budget.cells c.loop-budget.out _ refl refl c.loop-budget.invariant.1
    c.loop-budget.invariant.3 c.loop-budget.invariant.7 (c.loop-budget.invariant.8 rs w)
    (ap (λ i. run_from i c.loop-budget.done t) none ∙ run-spent t c.loop-budget.done (sym c.finished.ensures ∙ c.loop-budget-test.true))

pub cycle-requires : goal.cycle-requires
cycle-requires c =
    (c.loop-budget.invariant.0, c.loop-budget.invariant.3, c.requires.2)

pub overflow_add-done : goal.overflow_add-done
overflow_add-done c =
    omega (arith, c.loop-budget.invariant.2, c.if-done-budget.false, c.ranges.budget)

pub loop-budget-smaller : goal.loop-budget-smaller
loop-budget-smaller c =
    omega (arith, c.loop-budget.invariant.2, c.if-done-budget.false)

pub loop-budget-preserved : goal.loop-budget-preserved
unfolding is_finished Came
loop-budget-preserved c =
    let l = c.loop-budget.invariant in
    let d = c.cycle.auto in
    let more : c.loop-budget.done < c.args.budget = omega (arith, l.2, c.if-done-budget.false) in
    let (q, up, within, past) = subst
    (λ r. Came c.requires.2.regions c.loop-budget.cells c.loop-budget.out c.loop-budget.at c.cycle.new.cells c.cycle.new.out r)
    c.in-Ok.is (c.cycle.ensures c.requires.2.regions c.requires.2.tells).came in
    let kept = c.cycle.ensures c.requires.2.regions c.requires.2.tells in (
      kept.ready,
      kept.formed l.1,
      omega (arith, l.2, c.if-done-budget.false),
      omega (arith, within, d.out),
      d.out ∙ l.4,
      d.cells ∙ l.5,
      d.log ∙ l.6,
      past ∙ past-later c.loop-budget.at _ c.loop-budget.out c.args.out.now up l.7,
      λ rs w.
          let (goes, up, within, past) = subst
          (λ r. Came rs c.loop-budget.cells c.loop-budget.out c.loop-budget.at c.cycle.new.cells c.cycle.new.out r)
          c.in-Ok.is (c.cycle.ensures rs w).came in
          l.8 rs w ∙ run-goes (state_at rs c.loop-budget.cells c.loop-budget.out c.loop-budget.at) c.loop-budget.done c.args.budget more
          (sym c.finished.ensures ∙ c.loop-budget-test.true) _ goes,
    )

pub returns-in-Err : goal.returns-in-Err
unfolding is_finished Came
returns-in-Err c =
    λ rs w.
    let l = c.loop-budget.invariant in
    let t = state_at rs c.loop-budget.cells c.loop-budget.out c.loop-budget.at in
    let (q, s, o) = subst (λ r. Came rs c.loop-budget.cells c.loop-budget.out c.loop-budget.at c.cycle.new.cells c.cycle.new.out r)
    c.in-Err.is (c.cycle.ensures rs w).came in
    let more : c.loop-budget.done < c.args.budget = omega (arith, l.2, c.if-done-budget.false) in
    ap (λ (r : Ran). numbers r c.cycle.new.cells c.cycle.new.out) c.came_to-in-Err.ensures
    ∙ closes rs c.args.budget _ c.args.cells.now c.args.out.now c.loop-budget.cells c.loop-budget.out _ s o l.1 l.3 l.7 (l.8 rs w)
    (run-stops t c.loop-budget.done c.args.budget more (sym c.finished.ensures ∙ c.loop-budget-test.true) _ q)

pub returns : goal.returns
unfolding is_finished
returns c =
    λ rs w.
    let l = c.loop-budget.invariant in
    ap (λ (r : Ran). numbers r c.loop-budget.cells c.loop-budget.out) c.came_to-2.ensures
    ∙ closes rs c.args.budget _ c.args.cells.now c.args.out.now c.loop-budget.cells c.loop-budget.out _ refl refl l.1 l.3 l.7 (l.8 rs w)
    (run-finishes (state_at rs c.loop-budget.cells c.loop-budget.out c.loop-budget.at) c.loop-budget.done _
    (sym c.finished.ensures ∙ c.loop-budget-test.false))
