use Rattle.cells.specs.Pack.{Packs}
use Rattle.paper.specs.Deck.{fresh_cell}
use Rattle.paper.proofs.Kit.{length, get_or, ◌≡◌, ℕ, ◌<◌}
use Rattle.deck.proofs.fresh.lay.Given as goal

abbrev pub invariant-loop-c : goal.invariant-loop-c
invariant-loop-c l = (length l.cells ≡ length l.initial.cells) × ((j : ℕ) → j < l.c → Packs (get_or l.cells j 0) (fresh_cell l.n l.end j))
