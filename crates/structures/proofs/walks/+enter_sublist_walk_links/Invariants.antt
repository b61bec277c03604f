-- Walking along the LINKs and entering a sublist call each other. The levels that are left fall; along the LINKs, the cells without
-- marks.
use Rattle.paper.proofs.Kit.{◌+◌, ◌-◌, ◌*◌, ◌≤◌, ◌≡◌, true, length}
use Rattle.paper.specs.Limits.{deepest}
use Rattle.paper.specs.Walk.{enter}
use Rattle.structures.specs.Marks.{back, unmet}
use Rattle.structures.specs.Walks.{Holds, Visits}
use Rattle.structures.proofs.Leads.{Leads}
use Rattle.structures.proofs.Turn.{step}
use Rattle.structures.proofs.walks.+enter_sublist_walk_links.Given as goal

-- At a depth of 65 no cell is met, so no list is entered at 66.
abbrev pub decreases-enter_sublist : goal.decreases-enter_sublist
decreases-enter_sublist l = 2 * (deepest + 2 - l.depth)

abbrev pub decreases-walk_links : goal.decreases-walk_links
decreases-walk_links l = 2 * (deepest + 2 - l.depth) + 1

abbrev pub invariant-walk_links-loop-x : goal.invariant-walk_links-loop-x
invariant-walk_links-loop-x l = let z₀ = unmet (length l.cells) l.initial.marks in
    let z = unmet (length l.cells) l.marks in
    Holds l.cells l.order l.marks l.n
    × (z ≤ z₀)
    × (l.linked ≡ true → l.depth ≤ deepest)
    × Leads (λ f. Visits (enter f l.depth l.head) l.cells (back l.from l.initial.order)) z₀
    (λ f. Visits (step l.linked f l.depth l.c) l.cells (back l.n l.order)) z

abbrev pub decreases-walk_links-loop-x : goal.decreases-walk_links-loop-x
decreases-walk_links-loop-x l = unmet (length l.cells) l.marks
