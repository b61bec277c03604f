-- What the contracts of the program's call say: a printout by value, and the text that a run's numbers and bytes come to.
use Rattle.std.specs.Prelude.{ℕ, ◌-◌, List, ◌++◌, length, take, replicate}
use Rattle.paper.specs.Limits.{longest_printout}
use Rattle.paper.specs.Answer.{run_number}
use Rattle.paper.specs.Program.{answer_line}
use Rattle.machine.specs.Numbers.{Numbers}
use Rattle.desk.specs.declared.Printout.{Printout}

-- a text, and zeros up to the longest printout
unfoldable pub printed : List ℕ → Printout
printed t = record { n = length t; bytes = t ++ replicate (longest_printout - length t) 0 }

-- the lines that a run left, then the answer's
abbrev pub run_text : Numbers → List ℕ
run_text x = take x.len x.out ++ answer_line (run_number x.answer)
