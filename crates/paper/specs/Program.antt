-- Document 01, "What is built": "a small program that reads a deck from standard input, runs it in 4,096 cells with budget 1,000,000 and
-- 16,384 bytes of output room, and prints its lines, then the answer number in decimal and a line feed."
use Rattle.std.specs.Prelude.{List, [], ◌∷◌, ◌++◌, ℕ, take, replicate}
use Rattle.paper.specs.Limits.{largest_budget, program_deck, program_cells, program_room}
use Rattle.paper.specs.declared.LoadAnswer.{LoadAnswer}
use Rattle.paper.specs.declared.LoadAnswer.TheVariants.{Loaded, BadSize, Broken}
use Rattle.paper.specs.Answer.{run_number, load_number}
use Rattle.paper.specs.Cell.{word, zeros}
use Rattle.paper.specs.Deck.{LoadOutcome, load}
use Rattle.paper.specs.Print.{digits, feed_byte}
use Rattle.paper.specs.Run.{Outcome, run}

-- "the answer number in decimal and a line feed"
abbrev pub answer_line : ℕ → List ℕ
answer_line n = digits n ++ (feed_byte ∷ [])

-- "prints its lines, then the answer number"
abbrev pub ran_text : Outcome → List ℕ
ran_text o = o.state.lines ++ answer_line (run_number o.answer)

-- "with budget 1,000,000 and 16,384 bytes of output room"; a deck that is not loaded is not run, and has no lines
unfoldable pub loaded_text : LoadOutcome → LoadAnswer → List ℕ
loaded_text l Loaded = ran_text (run largest_budget (record { cells = l.cells; regions = l.regions; lines = []; room = program_room }))
loaded_text l BadSize = answer_line (load_number BadSize)
loaded_text l (Broken f o) = answer_line (load_number (Broken f o))

-- what is printed for an input. "It reads at most 16,384 deck bytes"; "in 4,096 cells"
unfoldable pub printout : List ℕ → List ℕ
printout input = let l = load (take program_deck input) (replicate program_cells (word zeros)) in loaded_text l l.answer

unfoldable pub program_open : Unit {0}
unfolding loaded_text printout
program_open = tt
