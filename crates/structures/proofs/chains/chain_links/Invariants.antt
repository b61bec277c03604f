use Rattle.paper.proofs.Kit.{◌≤◌, [], length}
use Rattle.paper.specs.Walk.{chain}
use Rattle.undo.specs.Did.{Always}
use Rattle.structures.specs.Marks.{back, unmet}
use Rattle.structures.specs.Walks.{Gets, Holds}
use Rattle.structures.proofs.Leads.{Leads}
use Rattle.structures.proofs.chains.chain_links.Given as goal

-- The chain: words along the LINKs. The cells without marks fall.
abbrev pub invariant-loop-w : goal.invariant-loop-w
invariant-loop-w l = let z₀ = unmet (length l.cells) l.initial.marks in
    let z = unmet (length l.cells) l.marks in
    Holds l.cells l.order l.marks l.n
    × (z ≤ z₀)
    × Leads (λ f. Gets Always (chain f l.head []) l.cells) z₀ (λ f. Gets Always (chain f l.c (back l.n l.order)) l.cells) z

abbrev pub decreases-loop-w : goal.decreases-loop-w
decreases-loop-w l = unmet (length l.cells) l.marks
