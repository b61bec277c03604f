use Rattle.deck.proofs.LoopLaws.{Stands}
use Rattle.records.specs.Symbols.{Written}
use Rattle.paper.proofs.Kit.{length, ◌≡◌, ◌-◌}
use Rattle.deck.proofs.load_records.Given as goal

abbrev pub invariant-loop-i : goal.invariant-loop-i
invariant-loop-i l = (length l.symbols ≡ 3) × Written l.kind l.r l.symbols l.i

abbrev pub invariant-deck : goal.invariant-deck
invariant-deck l = Stands l.deck (length l.initial.cells) l.locals l.cells l.names l.regions l.notes l.at

abbrev pub decreases-deck : goal.decreases-deck
decreases-deck l = length l.deck - l.at
