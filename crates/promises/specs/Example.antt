-- Small stores on which the promises can be tried: decks of paper/specs/Bench in 256 cells, and what their first cycle leaves.
use Rattle.std.specs.Prelude.{ℕ, List, [], replicate}
use Rattle.paper.specs.Limits.{smallest_n}
use Rattle.paper.specs.Cell.{free, State}
use Rattle.paper.specs.Act.{prim_open, act_open}
use Rattle.paper.specs.Print.{print_open}
use Rattle.paper.specs.Sound.{sound_open}
use Rattle.paper.specs.Record.{record_open}
use Rattle.paper.specs.Deck.{LoadOutcome, load, deck_open}
use Rattle.paper.specs.Walk.{walk_open}
use Rattle.paper.specs.Process.{process_open}
use Rattle.paper.specs.Cycle.{cycle_open}
use Rattle.paper.specs.Run.{run_from, run_open}
use Rattle.paper.specs.Plain.{plain_open}
use Rattle.paper.specs.Bench.{only, copying, five_cells, erase_new}
use Rattle.cells.specs.Layout.{unpack_of}
use Rattle.cells.specs.Pack.{packed}
use Rattle.regions.specs.declared.Regions.{Regions}
use Rattle.regions.specs.Table.{rows_from, regions_of, with_region}
use Rattle.sound.specs.Store.{formed, all_formed, store_sound}
use Rattle.sound.specs.Asked.{unfit}
use Rattle.deck.specs.Load.{table_from, table_of}

unfoldable pub loaded : List ℕ → LoadOutcome
loaded deck = load deck (replicate smallest_n (free 0))

unfoldable pub begun : List ℕ → State
begun deck = record { cells = (loaded deck).cells; regions = (loaded deck).regions; lines = []; room = 0 }

-- "L0 empty, then 9-1, then W0, where 9-1 is empty, then W1": the first cycle pushes L0, and region L has so many cells that six are free then.
-- Its table, its numbers before and after
unfoldable pub table : Regions
table = table_of (loaded (five_cells 22)).regions

unfoldable pub fresh : List ℕ
fresh = packed (begun (five_cells 22)).cells

unfoldable pub five : List ℕ
five = packed (run_from 1 0 (begun (five_cells 22))).state.cells

-- J90, J72: the second cycle erases what the first has pushed
unfoldable pub erasing : State
erasing = (run_from 1 0 (begun erase_new)).state

-- what a proof opens to compute them
unfoldable pub example_open : Unit {0}
unfolding prim_open act_open print_open sound_open record_open deck_open walk_open process_open cycle_open run_open plain_open only copying five_cells erase_new
    unpack_of rows_from regions_of with_region formed all_formed store_sound unfit table_from loaded begun table fresh five erasing
example_open = tt
