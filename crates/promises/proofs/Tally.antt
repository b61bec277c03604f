-- What H3 counts (CR 8), of every outcome that the contracts of the calls allow. Each statement can be read without its proof. That an accepted
-- call of cycle::cycle counts one more is in EveryCycle (`Leaves`).
use Rattle.paper.proofs.Kit.{ℕ, ◌+◌, ◌<◌, ◌≤◌, ◌≡◌, sym, ap, ◌∙◌, List, [], arith, length, pos, ◌+ℤ◌, zero-add}
use Rattle.paper.specs.declared.RunAnswer.{RunAnswer}
use Rattle.paper.specs.Limits.{half_range, largest_budget}
use Rattle.paper.specs.Answer.{load_number}
use Rattle.paper.specs.Cell.{State, integer_in, term_in, tally_in}
use Rattle.paper.specs.Act.{Act}
use Rattle.paper.specs.Process.{J72, J74}
use Rattle.paper.specs.Plain.{preserve_h0}
use Rattle.paper.specs.Cycle.{wrapped}
use Rattle.paper.proofs.SoundStore.{Frame}
use Rattle.paper.proofs.ActLaws.{s-preserve}
use Rattle.paper.proofs.ProcessLaws.{Kept, s-J72, s-J74}
use Rattle.paper.proofs.WrapLaws.{wrapped-is}
use Rattle.paper.proofs.TallyLaws.{cycles-counted}
use Rattle.regions.specs.declared.Regions.{Regions}
use Rattle.machine.specs.declared.Ran.{Ran}
use Rattle.machine.specs.Numbers as machine
use Rattle.machine.proofs.RunLaws.{run-cycles}
use Rattle.machine.proofs.Carried.{Before, given, numbered, runnable, cells_are, cycles-are, run-answers, run-within-budget}
use Rattle.plain.specs.Numbers.{Numbers, numbers, plain_on}
use Rattle.plain.proofs.Settled.{plain-unfit}
use Rattle.plain.proofs.GivesBack.{call-leaves-H3}
use Rattle.deck.specs.declared.Loaded.{Loaded}
use Rattle.deck.specs.Load.{Loads}
use Rattle.desk.proofs.LoadedRuns.{loaded-counts, loaded-runs}
use Rattle.promises.specs.Cycles.{tally_of}
use Rattle.promises.proofs.EveryCycle.{was-sound, every-cycle}
use Rattle.promises.proofs.Demand3Calls.{Way, answered, passed, way}

-- Whatever a run answers, if that is neither 1 nor 20 (these leave the numbers as they are): the tally afterwards is the tally before and as many
-- more as it says that cycles were done, wrapped
pub run-counts : (regions : Regions) (budget : ℕ) (s out : List ℕ) {r : Ran} {s' out' : List ℕ}
    → machine.numbers r s' out' ≡ machine.run_on regions budget s out → (Before r.answer → ⊥) → tally_of s' ≡ wrapped (tally_of s +ℤ pos r.cycles)
run-counts regions budget s out allowed began =
    let (size, f, few) = was-sound regions budget s out allowed began in
    let e = run-cycles regions budget s out size few f in
    let t = given regions s size f budget out in
    ap tally_of (cells_are regions budget s out allowed e)
    ∙ ap (λ (u : State). tally_in u.cells) (numbered regions s size f budget out)
    ∙ (cycles-counted t (runnable regions s size f [] (length out)) budget).is
    ∙ ap (λ k. wrapped (tally_of s +ℤ pos k)) (sym (cycles-are regions budget s out allowed e))

module _ (regions : Regions) (budget : ℕ) (s out : List ℕ) {r : Ran} {s' out' : List ℕ}
    (allowed : machine.numbers r s' out' ≡ machine.run_on regions budget s out) (began : Before r.answer → ⊥)
  where
    -- so below the wrap H3 and the answer cannot part
    pub counts-on : (m : ℕ) → tally_of s ≡ pos m → m + r.cycles < half_range → tally_of s' ≡ pos (m + r.cycles)
    counts-on m e h = run-counts regions budget s out allowed began ∙ ap (λ z. wrapped (z +ℤ pos r.cycles)) e ∙ wrapped-is (pos (m + r.cycles)) h

    -- after each of its cycles, as the run with a budget of k shows the numbers after k of them (`EveryCycle.every-cycle`)
    pub every-count : (k : ℕ) → k ≤ r.cycles → {rₖ : Ran} {sₖ outₖ : List ℕ} → machine.numbers rₖ sₖ outₖ ≡ machine.run_on regions k s out
        → tally_of sₖ ≡ wrapped (tally_of s +ℤ pos k)
    every-count k h a =
        let (size, f, few) = was-sound regions budget s out allowed began in
        let fewer : k ≤ largest_budget = omega (arith, h, few, run-within-budget regions budget s out allowed) in
        run-counts regions k s out a (run-answers regions k s out a size f fewer)
        ∙ ap (λ n. wrapped (tally_of s +ℤ pos n)) (every-cycle regions budget s out allowed began k h a).cycles

-- From a load that is answered 0 on, a run leaves in H3 just the cycles that it says
pub loaded-run-counts : (deck s : List ℕ) {s' : List ℕ} {l : Loaded} → Loads deck s s' l → load_number l.answer ≡ 0
    → (budget : ℕ) → budget ≤ largest_budget → (out : List ℕ) {r : Ran} {s'' out' : List ℕ}
    → machine.numbers r s'' out' ≡ machine.run_on l.regions budget s' out → tally_of s'' ≡ pos r.cycles
loaded-run-counts deck s {s'} {l} loads zero budget few out {r} e =
    counts-on l.regions budget s' out e (loaded-runs deck s loads zero budget few out e) 0
    (ap (λ x. integer_in (term_in x)) (loaded-counts deck s loads zero))
    (omega (arith, run-within-budget l.regions budget s' out e, few))
    ∙ ap pos (zero-add r.cycles)

-- "in demand 3 the three actions are not cycles, so H3 is as it was", whatever they answer
module _ (r : Regions) (s : List ℕ) {a : RunAnswer} {s₁ : List ℕ} where
  leaves : (m : Act (Unit {0})) → ((F : Frame) → Kept F m) → numbers a s₁ ≡ plain_on m r s → tally_of s₁ ≡ tally_of s
  leaves m k e = go (way r s)
    where
      go : Way r s → tally_of s₁ ≡ tally_of s
      go (answered b u n) = ap (λ (x : Numbers). tally_of x.cells) (e ∙ sym (plain-unfit m r s u))
      go (passed p) = ap (λ x. integer_in (term_in x)) (call-leaves-H3 r s p.size p.sound k e)

  pub preserve-leaves : numbers a s₁ ≡ plain_on preserve_h0 r s → tally_of s₁ ≡ tally_of s
  preserve-leaves = leaves preserve_h0 (λ F. s-preserve 1)

  pub copy-leaves : numbers a s₁ ≡ plain_on J74 r s → tally_of s₁ ≡ tally_of s
  copy-leaves = leaves J74 (λ F. s-J74)

  pub erase-leaves : numbers a s₁ ≡ plain_on J72 r s → tally_of s₁ ≡ tally_of s
  erase-leaves = leaves J72 (λ F. s-J72)
