-- Demands 1 and 2, carried to the call: of every outcome that the contract of `run` allows. A budget may be any number of cycles, so
-- what is said of a run is said after each of its cycles. Each statement can be read without its proof.
use Rattle.paper.proofs.Kit.{clash, ℕ, zero, suc, ◌+◌, ◌≤◌, ◌≡◌, refl, sym, ap, subst, ◌∙◌, Bool, true, false, ◌⊎◌, ⊎_elim, List, [], arith, length, drop}
use Rattle.paper.proofs.Kit.{length-append, length-drop, length-map, drop-append_seam, leb, leb-true, leb-false}
use Rattle.paper.specs.declared.Refusal.{Refusal}
use Rattle.paper.specs.declared.RunAnswer.{RunAnswer}
use Rattle.paper.specs.declared.RunAnswer.TheVariants.{Finished, BadSize, BudgetSpent, NotSound, Refused}
use Rattle.paper.specs.Cell.{State, size_fits}
use Rattle.paper.specs.declared.Refusal.TheVariants.{CellZero, FreeCell, WrongKind, NotToBeFreed, NothingBelow, NoFreeCell, OwnCell, NotListed, OutOfRange}
use Rattle.paper.specs.declared.Refusal.TheVariants.{NoRoom, BadWalk}
use Rattle.paper.specs.Limits.{largest_budget}
use Rattle.paper.specs.Answer.{run_number, refusal_number}
use Rattle.paper.specs.Act.{Res, done, refused}
use Rattle.paper.specs.Cycle.{cycle}
use Rattle.paper.specs.Sound.{sound}
use Rattle.paper.specs.Run.{Turn, finishes, stops, continues, is_finished, Outcome, outcome, alone, after_cycle, turn, on_turn, run_from}
use Rattle.cycle.specs.Turns.{cycled}
use Rattle.paper.proofs.SoundStore.{Frame, Sound, and-true}
use Rattle.paper.proofs.SoundTest.{Tested, sound-from, sound-passes}
use Rattle.paper.proofs.WrapLaws.{later}
use Rattle.paper.proofs.CycleLaws.{tallying, RunOk, run_sound}
use Rattle.paper.proofs.Demand1.{Runnable, FreeListed, free-listed}
use Rattle.cells.specs.Pack.{pack_of, packed}
use Rattle.cells.proofs.Store.{unpacked-length}
use Rattle.regions.specs.declared.Regions.{Regions}
use Rattle.regions.specs.Table.{regions_of}
use Rattle.sound.specs.Store.{state_with, store_sound}
use Rattle.sound.proofs.SoundLaws.{passed-sound, in-form}
use Rattle.sound.proofs.FitLaws.{sound-fits, unpacked-packed, packed-formed}
use Rattle.machine.specs.declared.Ran.{Ran}
use Rattle.machine.specs.Numbers.{Numbers, numbers, untouched, in_numbers, cycles_on, run_on}
use Rattle.machine.proofs.RunLaws.{run-spent, run-turns, run-size, run-unsound, run-over, run-cycles}

-- 1 and 20 come before any cycle; a refused cycle is answered from 21 on
abbrev pub Before : RunAnswer → Type 0
Before a = (run_number a ≡ 1) ⊎ (run_number a ≡ 20)

refusal-from : (e : Refusal) → 21 ≤ refusal_number e
refusal-from CellZero = omega arith
refusal-from (FreeCell c) = omega arith
refusal-from (WrongKind c) = omega arith
refusal-from (NotToBeFreed c) = omega arith
refusal-from (NothingBelow c) = omega arith
refusal-from NoFreeCell = omega arith
refusal-from (OwnCell c) = omega arith
refusal-from (NotListed c) = omega arith
refusal-from (OutOfRange c) = omega arith
refusal-from NoRoom = omega arith
refusal-from (BadWalk c) = omega arith

-- the cycles answer otherwise
cycles-answer : (left n : ℕ) (t : State) → Before (run_from left n t).answer → ⊥
unfolding run_from on_turn
cycles-answer zero n t = go (is_finished t) refl
  where
    go : (b : Bool) → is_finished t ≡ b → Before (run_from zero n t).answer → ⊥
    go true e = rw e (⊎_elim (λ p. omega arith) (λ p. omega arith))
    go false e = rw e (⊎_elim (λ p. omega arith) (λ p. omega arith))
cycles-answer (suc left) n t = go (turn t) (λ u. cycles-answer left (suc n) u)
  where
    go : (x : Turn) → ((u : State) → Before (run_from left (suc n) u).answer → ⊥)
        → Before (on_turn x (outcome Finished n t) (λ r. outcome (Refused r) n t) (λ u. run_from left (suc n) u)).answer → ⊥
    go finishes k = ⊎_elim (λ p. omega arith) (λ p. omega arith)
    go (stops e) k = ⊎_elim (λ p. omega (arith, refusal-from e)) (λ p. omega (arith, refusal-from e))
    go (continues u) k = k u

-- and are no more than the budget
cycles-within : (left n : ℕ) (t : State) → (run_from left n t).cycles ≤ n + left
unfolding run_from on_turn
cycles-within zero n t = omega arith
cycles-within (suc left) n t = go (turn t) (λ u. cycles-within left (suc n) u)
  where
    go : (x : Turn) → ((u : State) → (run_from left (suc n) u).cycles ≤ suc n + left)
        → (on_turn x (outcome Finished n t) (λ r. outcome (Refused r) n t) (λ u. run_from left (suc n) u)).cycles ≤ n + suc left
    go finishes k = omega arith
    go (stops e) k = omega arith
    go (continues u) k = omega (arith, k u)

-- a cycle does not finish a run
goes_on : (t : State) → cycled t ≡ finishes → ⊥
unfolding after_cycle
goes_on t q = go (cycle (alone t)) q
  where
    go : (x : Res State Refusal (Unit {0})) → after_cycle t x ≡ finishes → ⊥
    go (done u v) e = clash cc
    go (refused e) p = clash cc

-- What a refusal leaves is what the cycles before it left: as many as the answer says, given as the budget, end there.
record Cut (left n : ℕ) (t : State) : Type 0 where
  done : ℕ
  cycles : (run_from left n t).cycles ≡ n + done
  before : run_from done n t ≡ outcome BudgetSpent (n + done) (run_from left n t).state

cut : (left n : ℕ) (t : State) → 21 ≤ run_number (run_from left n t).answer → Cut left n t
unfolding run_from turn on_turn
cut zero n t h = go (is_finished t) refl
  where
    go : (b : Bool) → is_finished t ≡ b → Cut zero n t
    go true e = let k : 21 ≤ 0 = rw e at h in absurd (omega arith)
    go false e = let k : 21 ≤ 10 = rw e at h in absurd (omega arith)
cut (suc left) n t h = by_finish (is_finished t) refl (λ u. cut left (suc n) u)
  where
    by_cycle : is_finished t ≡ false → (x : Turn) → cycled t ≡ x
        → ((u : State) → 21 ≤ run_number (run_from left (suc n) u).answer → Cut left (suc n) u) → Cut (suc left) n t
    by_cycle p finishes q k = absurd (goes_on t q)
    by_cycle p (stops e) q k =
        let stop : run_from (suc left) n t ≡ outcome (Refused e) n t = rw (p, turn, q) in
        let m : n ≡ n + 0 = omega arith in
        record {
          done = 0;
          cycles = ap (λ (o : Outcome). o.cycles) stop ∙ m;
          before = run-spent t n p ∙ (λ i. outcome BudgetSpent (m i) (sym stop i).state);
        }
    by_cycle p (continues u) q k =
        let next = run-turns t n p u q left in
        let c = k u (subst (λ (o : Outcome). 21 ≤ run_number o.answer) next h) in
        let m : suc n + c.done ≡ n + suc c.done = omega arith in
        record {
          done = suc c.done;
          cycles = ap (λ (o : Outcome). o.cycles) next ∙ c.cycles ∙ m;
          before = run-turns t n p u q c.done ∙ c.before ∙ (λ i. outcome BudgetSpent (m i) (sym next i).state);
        }

    by_finish : (b : Bool) → is_finished t ≡ b → ((u : State) → 21 ≤ run_number (run_from left (suc n) u).answer → Cut left (suc n) u)
        → Cut (suc left) n t
    by_finish true p k = let z : 21 ≤ 0 = rw (p, turn) at h in absurd (omega arith)
    by_finish false p k = by_cycle p (cycled t) refl k

-- a store that passed the test
module _ (regions : Regions) (s : List ℕ) (size : size_fits (length s) ≡ true) (passes : store_sound regions s ≡ true) where
  pub runnable : (lines : List ℕ) (room : ℕ) → Runnable (state_with regions s lines room)
  runnable lines room = record { size = ap size_fits (unpacked-length s) ∙ size; test = passed-sound regions s lines room passes }

  pub tabled : regions.n ≤ 23
  unfolding store_sound
  tabled = leb-true regions.n 23 (and-true (leb regions.n 23) _ (and-true _ _ passes).0).0

  module _ (budget : ℕ) (out : List ℕ) where
    abbrev pub given : State
    given = state_with regions s [] (length out)

    abbrev pub after : State
    after = (run_from budget 0 given).state

    pub tested : Tested given
    tested = sound-from given (runnable [] (length out)).size (runnable [] (length out)).test

    pub counted : RunOk tested.frame budget 0 (run_from budget 0 given)
    counted = run_sound tested.frame budget 0 given tested.is_sound

    -- its frame, with what H3 counts afterwards
    abbrev pub frame-after : Frame
    frame-after = tallying tested.frame (later counted.more tested.frame.tally)

    pub sound-after : Sound frame-after after
    sound-after = counted.sound

    -- the numbers afterwards are those of the definition's state
    pub numbered : state_with regions (packed after.cells) after.lines after.room ≡ after
    numbered = rw (unpacked-packed after.cells (sound-fits frame-after after sound-after), sym tested.rs-is, sym sound-after.regions)

    passes-after : store_sound regions (packed after.cells) ≡ true
    passes-after =
        in-form regions (packed after.cells) after.lines after.room tabled
        (packed-formed after.cells (sound-fits frame-after after sound-after))
        ∙ ap sound numbered ∙ sound-passes frame-after after sound-after

    size-after : length (packed after.cells) ≡ length s
    size-after = length-map after.cells pack_of ∙ sound-after.size ∙ tested.n-is ∙ unpacked-length s

    lines-within : length after.lines ≤ length out
    lines-within = omega (arith, sound-after.lines ∙ tested.out-is)

-- the three ways of a run
pub data Way (regions : Regions) (budget : ℕ) (s out : List ℕ) : Type 0 where
  small : untouched BadSize s out ≡ run_on regions budget s out → Way regions budget s out
  unsound : untouched NotSound s out ≡ run_on regions budget s out → Way regions budget s out
  ran : size_fits (length s) ≡ true → store_sound regions s ≡ true → budget ≤ largest_budget
      → cycles_on (regions_of regions) budget s out ≡ run_on regions budget s out → Way regions budget s out

pub way : (regions : Regions) (budget : ℕ) (s out : List ℕ) → Way regions budget s out
way regions budget s out = by_size (size_fits (length s)) refl
  where
    by_budget : size_fits (length s) ≡ true → store_sound regions s ≡ true → (b : Bool) → leb budget largest_budget ≡ b → Way regions budget s out
    by_budget size f true h = let k = leb-true budget largest_budget h in ran size f k (run-cycles regions budget s out size k f)
    by_budget size f false h = unsound (run-over regions budget s out size (leb-false budget largest_budget h))

    by_sound : size_fits (length s) ≡ true → (b : Bool) → store_sound regions s ≡ b → Way regions budget s out
    by_sound size true f = by_budget size f (leb budget largest_budget) refl
    by_sound size false f = unsound (run-unsound regions budget s out size f)

    by_size : (b : Bool) → size_fits (length s) ≡ b → Way regions budget s out
    by_size true e = by_sound e (store_sound regions s) refl
    by_size false e = small (run-size regions budget s out e)

-- Any two outcomes that the contract allows are the same: answer, cycles, length of the lines, every cell and every byte.
pub one-outcome : (regions : Regions) (budget : ℕ) (s out : List ℕ) {r₁ r₂ : Ran} {s₁ s₂ out₁ out₂ : List ℕ}
    → numbers r₁ s₁ out₁ ≡ run_on regions budget s out
    → numbers r₂ s₂ out₂ ≡ run_on regions budget s out
    → (r₁ ≡ r₂) × (s₁ ≡ s₂) × (out₁ ≡ out₂)
one-outcome regions budget s out p q =
    let e = p ∙ sym q in (
      λ i. record { answer = (e i).answer; cycles = (e i).cycles; len = (e i).len },
      ap (λ (n : Numbers). n.cells) e,
      ap (λ (n : Numbers). n.out) e,
    )

-- Whatever a run answers and leaves.
module _ (regions : Regions) (budget : ℕ) (s out : List ℕ) {r : Ran} {s' out' : List ℕ} (allowed : numbers r s' out' ≡ run_on regions budget s out) where
  pub answer-is : {n : Numbers} → n ≡ run_on regions budget s out → r.answer ≡ n.answer
  answer-is e = ap (λ (n : Numbers). n.answer) (allowed ∙ sym e)

  pub cells_are : {n : Numbers} → n ≡ run_on regions budget s out → s' ≡ n.cells
  cells_are e = ap (λ (n : Numbers). n.cells) (allowed ∙ sym e)

  pub out-is : {n : Numbers} → n ≡ run_on regions budget s out → out' ≡ n.out
  out-is e = ap (λ (n : Numbers). n.out) (allowed ∙ sym e)

  pub cycles-are : {n : Numbers} → n ≡ run_on regions budget s out → r.cycles ≡ n.cycles
  cycles-are e = ap (λ (n : Numbers). n.cycles) (allowed ∙ sym e)

  pub len_is : {n : Numbers} → n ≡ run_on regions budget s out → r.len ≡ n.len
  len_is e = ap (λ (n : Numbers). n.len) (allowed ∙ sym e)

  -- a store that passed the test passes it afterwards
  pub run-keeps-sound : store_sound regions s ≡ true → store_sound regions s' ≡ true
  run-keeps-sound h = go (way regions budget s out)
    where
      go : Way regions budget s out → store_sound regions s' ≡ true
      go (small e) = ap (store_sound regions) (cells_are e) ∙ h
      go (unsound e) = ap (store_sound regions) (cells_are e) ∙ h
      go (ran size f k e) = ap (store_sound regions) (cells_are e) ∙ passes-after regions s size f budget out

  -- as many cells as before
  pub run-keeps-size : length s' ≡ length s
  run-keeps-size = go (way regions budget s out)
    where
      go : Way regions budget s out → length s' ≡ length s
      go (small e) = ap length (cells_are e)
      go (unsound e) = ap length (cells_are e)
      go (ran size f k e) = ap length (cells_are e) ∙ size-after regions s size f budget out

  -- "the free cells are exactly those on the H2 list, each once": `FreeListed` of paper/proofs/Demand1
  pub run-lists-free : size_fits (length s) ≡ true → store_sound regions s ≡ true → FreeListed (state_with regions s' [] 0)
  run-lists-free size passes =
      free-listed (state_with regions s' [] 0) (runnable regions s' (ap size_fits run-keeps-size ∙ size) (run-keeps-sound passes) [] 0)

  -- 1 and 20: "untouched"
  pub run-untouched : Before r.answer → (s' ≡ s) × (out' ≡ out) × (r.cycles ≡ 0) × (r.len ≡ 0)
  run-untouched h = go (way regions budget s out)
    where
      go : Way regions budget s out → (s' ≡ s) × (out' ≡ out) × (r.cycles ≡ 0) × (r.len ≡ 0)
      go (small e) = (cells_are e, out-is e, cycles-are e, len_is e)
      go (unsound e) = (cells_are e, out-is e, cycles-are e, len_is e)
      go (ran size f k e) = absurd (cycles-answer budget 0 (given regions s size f budget out) (subst Before (answer-is e) h))

  -- and of a sound store, N and the budget in range, neither is the answer
  pub run-answers : size_fits (length s) ≡ true → store_sound regions s ≡ true → budget ≤ largest_budget → Before r.answer → ⊥
  run-answers size f k h =
      cycles-answer budget 0 (given regions s size f budget out) (subst Before (answer-is (run-cycles regions budget s out size k f)) h)

  -- the lines are the first bytes of the room; "output bytes past the lines keep what they held"
  pub run-keeps-past : (drop r.len out' ≡ drop r.len out) × (r.len ≤ length out) × (length out' ≡ length out)
  run-keeps-past = go (way regions budget s out)
    where
      same : out' ≡ out → r.len ≡ 0 → (drop r.len out' ≡ drop r.len out) × (r.len ≤ length out) × (length out' ≡ length out)
      same o l = (ap (drop r.len) o, omega (arith, l), ap length o)

      go : Way regions budget s out → (drop r.len out' ≡ drop r.len out) × (r.len ≤ length out) × (length out' ≡ length out)
      go (small e) = same (out-is e) (len_is e)
      go (unsound e) = same (out-is e) (len_is e)
      go (ran size f k e) =
          let t = (after regions s size f budget out).lines in
          let h : length t ≤ length out = lines-within regions s size f budget out in (
            rw (len_is e, out-is e) (drop-append_seam t (drop (length t) out)),
            omega (arith, len_is e, h),
            ap length (out-is e) ∙ length-append t (drop (length t) out) ∙ ap (λ i. length t + i) (length-drop (length t) out) ∙ (omega (arith, h)),
          )

  -- no more cycles than the budget
  pub run-within-budget : r.cycles ≤ budget
  run-within-budget = go (way regions budget s out)
    where
      go : Way regions budget s out → r.cycles ≤ budget
      go (small e) = omega (arith, cycles-are e)
      go (unsound e) = omega (arith, cycles-are e)
      go (ran size f k e) = omega (arith, cycles-are e, cycles-within budget 0 (given regions s size f budget out))

  -- "Run answers from 21 leave the store and lines before that cycle": cells and bytes are those that the cycles before it leave
  pub refusal-leaves : 21 ≤ run_number r.answer
      → numbers (record { answer = BudgetSpent; cycles = r.cycles; len = r.len }) s' out' ≡ run_on regions r.cycles s out
  refusal-leaves h = go (way regions budget s out)
    where
      told : {a : RunAnswer} → r.answer ≡ a → 21 ≤ run_number a
      told e = subst (λ (a : RunAnswer). 21 ≤ run_number a) e h

      go : Way regions budget s out
          → numbers (record { answer = BudgetSpent; cycles = r.cycles; len = r.len }) s' out' ≡ run_on regions r.cycles s out
      go (small w) = let z = told (answer-is w) in absurd (omega arith)
      go (unsound w) = let z = told (answer-is w) in absurd (omega arith)
      go (ran size f k w) =
          let t = given regions s size f budget out in
          let c = cut budget 0 t (told (answer-is w)) in
          let m : c.done ≡ r.cycles = omega (arith, c.cycles, cycles-are w) in
          let z : 0 + c.done ≡ r.cycles = omega (arith, m) in
          let same : run_from r.cycles 0 t ≡ outcome BudgetSpent r.cycles (run_from budget 0 t).state =
          ap (λ i. run_from i 0 t) (sym m) ∙ c.before ∙ ap (λ i. outcome BudgetSpent i (run_from budget 0 t).state) z in
          let few : r.cycles ≤ largest_budget = omega (arith, cycles-are w, cycles-within budget 0 t, k) in
          (λ i. record { answer = BudgetSpent; cycles = r.cycles; len = len_is w i; cells = cells_are w i; out = out-is w i })
          ∙ ap (in_numbers out) (sym same) ∙ run-cycles regions r.cycles s out size few f
