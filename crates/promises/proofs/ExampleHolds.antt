-- The promises are not had emptily: stores for which their hypotheses hold, by computation.
use Rattle.paper.proofs.Kit.{clash, ℕ, ◌≡◌, refl, Bool, true, false, [], none, arith, pos}
use Rattle.paper.specs.declared.RunAnswer.TheVariants.{Finished, BudgetSpent}
use Rattle.paper.specs.Cell.{State, regional, J}
use Rattle.paper.specs.declared.Refusal.{Refusal}
use Rattle.paper.specs.Act.{Res, done, refused}
use Rattle.paper.specs.Process.{J72, J74}
use Rattle.paper.specs.Cycle.{cycle}
use Rattle.paper.specs.Run.{run}
use Rattle.paper.specs.Bench.{five_cells}
use Rattle.paper.proofs.SoundTest.{sound-from}
use Rattle.paper.specs.Plain.{preserve_h0}
use Rattle.paper.proofs.Demand1.{Runnable}
use Rattle.paper.proofs.Demand3.{in_h0}
use Rattle.regions.specs.Table.{regions_of}
use Rattle.sound.specs.Store.{state_with}
use Rattle.sound.specs.Asked.{unfit}
use Rattle.sound.proofs.FitLaws.{sound-fits, unpacked-packed}
use Rattle.machine.specs.Numbers.{run_on}
use Rattle.cycle.specs.Order.{order_in, fetch}
use Rattle.plain.specs.Numbers.{plain_on}
use Rattle.plain.specs.Walks.{walk_on}
use Rattle.plain.proofs.GivesBack.{GaveBack}
use Rattle.promises.specs.Free.{free_numbers}
use Rattle.promises.specs.Cycles.{tally_of}
use Rattle.promises.specs.Example.{begun, table, fresh, five, erasing, example_open}
use Rattle.promises.proofs.Demand3Calls.{copy-and-erase}
use Rattle.promises.proofs.InCycle.{Executes}

-- the walk of the symbol in H0 finishes and meets five cells; six cells are free
pub met-five : let met = walk_on (in_h0 (state_with table five [] 0)).symb table five in (met.answer ≡ Finished) × (met.n ≡ 5) × (free_numbers five ≡ 6)
unfolding example_open walk_on free_numbers
met-five = (refl, refl, refl)

-- so preserve, copy and erase give it back
pub five-back :
    let p = plain_on preserve_h0 table five in
    let c = plain_on J74 table p.cells in
    let e = plain_on J72 table c.cells in
    GaveBack five p.answer c.answer e.answer e.cells
five-back =
    let (finishes, met, free) = met-five in
    copy-and-erase table five refl finishes (omega (arith, met, free)) refl refl refl

-- the numbers of the first deck are those of the state that its load leaves
abbrev at_first : State
at_first = begun (five_cells 22)

runnable : Runnable at_first
unfolding example_open
runnable = record { size = refl; test = refl }

regions-are : regions_of table ≡ at_first.regions
unfolding example_open
regions-are = refl

begins : state_with table fresh [] 0 ≡ at_first
unfolding fresh begun
begins =
    let t = sound-from at_first runnable.size runnable.test in
    let cells_are = unpacked-packed at_first.cells (sound-fits t.frame at_first t.is_sound) in
    λ i. record { cells = cells_are i; regions = regions-are i; lines = []; room = 0 }

tested : unfit table fresh ≡ none
unfolding example_open
tested = refl

went : (run_on table 1 fresh []).cells ≡ five
unfolding run_on run five
went = rw (tested, run_on) (rw begins (rw (runnable.size, runnable.test, run)))

-- a run that does a cycle: `every-cycle` and `run_ends` speak of it
pub one-cycle : let n = run_on table 1 fresh [] in (n.answer ≡ BudgetSpent) × (n.cycles ≡ 1) × (n.cells ≡ five)
unfolding example_open run_on
one-cycle = (refl, refl, went)

-- what H3 counts before it and after it: `Tally.run-counts` speaks of it
pub counts-one : (tally_of fresh ≡ pos 0) × (tally_of five ≡ pos 1)
unfolding example_open
counts-one = (refl, refl)

-- a cycle that executes J72, and is accepted: `J72-in-cycle` speaks of it
erasing-runs : Runnable erasing
unfolding example_open
erasing-runs = record { size = refl; test = refl }

erasing-executes : Executes 72 0 erasing
unfolding example_open fetch order_in
erasing-executes =
    record { going = λ e. let z : ◌≡◌ {A = ℕ} 222 0 = e in omega arith; x = regional (J 72); fetched = refl; process = refl }

-- what is computed of the cycle is that it is accepted, and not the state that it leaves
abbrev accepted : Res State Refusal (Unit {0}) → Bool
accepted (done a t) = true
accepted (refused e) = false

abbrev Goes : Res State Refusal (Unit {0}) → Type 0
Goes r = (t : State) × (r ≡ done tt t)

goes : (r : Res State Refusal (Unit {0})) → accepted r ≡ true → Goes r
goes (done a t) e = (t, refl)
goes (refused r) e = clash cc

erasing-goes : accepted (cycle erasing) ≡ true
unfolding example_open
erasing-goes = refl

pub erases : Runnable erasing × Executes 72 0 erasing × Goes (cycle erasing)
erases = (erasing-runs, erasing-executes, goes (cycle erasing) erasing-goes)
