-- A run by what its cycles came to.
use Rattle.paper.proofs.Kit.{ℕ, zero, suc, ◌+◌, ◌-◌, ◌<◌, ◌≤◌, ◌≡◌, refl, sym, ap, ◌∙◌, Bool, true, false, ◌&&◌, leb, lt-leb, le-leb, List, [], ◌++◌, some}
use Rattle.paper.proofs.Kit.{arith, length, take, drop, take-append-drop, length-take-le, drop-drop}
use Rattle.paper.specs.declared.Refusal.{Refusal}
use Rattle.paper.specs.declared.RunAnswer.{RunAnswer}
use Rattle.paper.specs.declared.RunAnswer.TheVariants.{Finished, BadSize, BudgetSpent, NotSound, Refused}
use Rattle.paper.specs.Limits.{largest_budget}
use Rattle.paper.specs.Cell.{Region, State, size_fits}
use Rattle.paper.specs.Run.{stops, continues, is_finished, outcome, turn, on_turn, run_from, run}
use Rattle.paper.specs.Sound.{sound}
use Rattle.cells.specs.Pack.{AllFormed}
use Rattle.cells.specs.Bridge.{unpacked, state_of}
use Rattle.cells.proofs.Store.{unpacked-length, packed-unpacked}
use Rattle.regions.specs.declared.Regions.{Regions}
use Rattle.regions.specs.Table.{regions_of}
use Rattle.sound.specs.Store.{state_with, store_sound}
use Rattle.sound.specs.Asked.{unfit}
use Rattle.sound.proofs.SoundLaws.{passed-formed, passed-sound}
use Rattle.sound.proofs.AskLaws.{unfit-size, unfit-unsound, fit}
use Rattle.cycle.specs.Turns.{state_at, cycled}
use Rattle.machine.specs.declared.Ran.{Ran}
use Rattle.machine.specs.Numbers.{numbers, untouched, in_numbers, cycles_on, run_on}

-- one turn of a run, and its ends
module _ (t : State) (n : ℕ) where
  pub run-finishes : (left : ℕ) → is_finished t ≡ true → run_from left n t ≡ outcome Finished n t
  unfolding run_from turn on_turn
  run-finishes zero p = rw p
  run-finishes (suc left) p = rw (p, turn)

  pub run-spent : is_finished t ≡ false → run_from 0 n t ≡ outcome BudgetSpent n t
  unfolding run_from
  run-spent p = rw p

  pub run-turns : is_finished t ≡ false → (u : State) → cycled t ≡ continues u → (left : ℕ) → run_from (suc left) n t ≡ run_from left (suc n) u
  unfolding run_from turn on_turn
  run-turns p u q left = rw (p, turn, q)

  -- a cycle, while some of the budget is left
  module _ (budget : ℕ) (more : n < budget) (p : is_finished t ≡ false) where
    pub run-stops : (e : Refusal) → cycled t ≡ stops e → run_from (budget - n) n t ≡ outcome (Refused e) n t
    unfolding run_from turn on_turn
    run-stops e q = go (budget - n) (omega (arith, more))
      where
        go : (k : ℕ) → 0 < k → run_from k n t ≡ outcome (Refused e) n t
        go zero h = absurd (omega (arith, h))
        go (suc k) h = rw (p, turn, q)

    pub run-goes : (u : State) → cycled t ≡ continues u → run_from (budget - n) n t ≡ run_from (budget - (n + 1)) (n + 1) u
    run-goes u q =
        let left : budget - n ≡ suc (budget - (n + 1)) = omega (arith, more) in
        let next : suc n ≡ n + 1 = omega arith in
        ap (λ i. run_from i n t) left ∙ run-turns p u q (budget - (n + 1)) ∙ ap (λ i. run_from (budget - (n + 1)) i u) next

module _ (rs : List Region) (s out₀ : List ℕ) where
  -- the state that a run begins with
  pub begins : (budget : ℕ) → run_from budget 0 (state_of (record { regions = rs; lines = []; room = length out₀ }) s)
      ≡ run_from (budget - 0) 0 (state_at rs s out₀ 0)
  begins budget =
      let p : length out₀ ≡ length out₀ - 0 = omega arith in
      let q : budget ≡ budget - 0 = omega arith in
      λ i. run_from (q i) 0 (state_of (record { regions = rs; lines = []; room = p i }) s)

-- the lines stand first, and the bytes past them are those that were lent
ends : (rs : List Region) (s out out₀ : List ℕ) (r : Ran) → AllFormed s → r.len ≤ length out → drop r.len out ≡ drop r.len out₀
    → numbers r s out ≡ in_numbers out₀ (outcome r.answer r.cycles (state_at rs s out r.len))
ends rs s out out₀ r f h past =
    let at = r.len in
    let k : at ≡ length (take at out) = sym (length-take-le at out h) in
    let b : out ≡ take at out ++ drop (length (take at out)) out₀ =
    sym (take-append-drop at out) ∙ ap (λ x. take at out ++ x) (past ∙ ap (λ i. drop i out₀) k) in
    let c = sym (packed-unpacked s f) in
    λ i. record { answer = r.answer; cycles = r.cycles; len = k i; cells = c i; out = b i }

-- the run that was begun has come to r, and what was lent is as it was then
pub closes : (rs : List Region) (budget left : ℕ) (s₀ out₀ s out : List ℕ) (r : Ran) {s' out' : List ℕ} → s' ≡ s → out' ≡ out → AllFormed s
    → r.len ≤ length out → drop r.len out ≡ drop r.len out₀
    → run_from budget 0 (state_of (record { regions = rs; lines = []; room = length out₀ }) s₀) ≡ run_from left r.cycles (state_at rs s out r.len)
    → run_from left r.cycles (state_at rs s out r.len) ≡ outcome r.answer r.cycles (state_at rs s out r.len)
    → numbers r s' out' ≡ cycles_on rs budget s₀ out₀
closes rs budget left s₀ out₀ s out r c o f h past p q =
    (λ i. numbers r (c i) (o i)) ∙ ends rs s out out₀ r f h past ∙ ap (in_numbers out₀) (sym (p ∙ q))

-- bytes past a place, and past a later one
pub past-later : (at n : ℕ) (out out₀ : List ℕ) → at ≤ n → drop at out ≡ drop at out₀ → drop n out ≡ drop n out₀
past-later at n out out₀ h p =
    let q : n ≡ at + (n - at) = omega (arith, h) in
    ap (λ i. drop i out) q ∙ sym (drop-drop (n - at) at out) ∙ ap (drop (n - at)) p ∙ drop-drop (n - at) at out₀ ∙ sym (ap (λ i. drop i out₀) q)

-- the answers before any cycle, and the cycles
module _ (r : Regions) (budget : ℕ) (s out : List ℕ) where
  pub run-unfit : (a : RunAnswer) → unfit r s ≡ some a → untouched a s out ≡ run_on r budget s out
  unfolding run_on
  run-unfit a e = rw (e, run_on)

  pub run-size : size_fits (length s) ≡ false → untouched BadSize s out ≡ run_on r budget s out
  run-size e = run-unfit BadSize (unfit-size r s e)

  module _ (size : size_fits (length s) ≡ true) where
    pub run-unsound : store_sound r s ≡ false → untouched NotSound s out ≡ run_on r budget s out
    run-unsound f = run-unfit NotSound (unfit-unsound r s size f)

    sized : size_fits (length (unpacked s)) ≡ true
    sized = ap size_fits (unpacked-length s) ∙ size

    pub run-passes : store_sound r s ≡ true → in_numbers out (run budget (state_with r s [] (length out))) ≡ run_on r budget s out
    unfolding run_on
    run-passes f = rw (fit r s size f, run_on)

    abbrev st : State
    st = state_with r s [] (length out)

    says-not : (sound st && leb budget largest_budget) ≡ false → run budget st ≡ outcome NotSound 0 st
    unfolding run
    says-not e = rw (sized, e, run)

    says-goes : (sound st && leb budget largest_budget) ≡ true → run budget st ≡ run_from budget 0 st
    unfolding run
    says-goes e = rw (sized, e, run)

    pub run-over : largest_budget < budget → untouched NotSound s out ≡ run_on r budget s out
    run-over h = go (store_sound r s) refl
      where
        no : (b : Bool) → (b && leb budget largest_budget) ≡ false
        no true = lt-leb budget largest_budget h
        no false = refl

        go : (b : Bool) → store_sound r s ≡ b → untouched NotSound s out ≡ run_on r budget s out
        go false f = run-unsound f
        go true f =
            ap (λ x. untouched NotSound x out) (sym (packed-unpacked s (passed-formed r s f)))
            ∙ ap (in_numbers out) (sym (says-not (no (sound st)))) ∙ run-passes f

    pub run-cycles : budget ≤ largest_budget → store_sound r s ≡ true → cycles_on (regions_of r) budget s out ≡ run_on r budget s out
    run-cycles h f = ap (in_numbers out) (sym (says-goes (rw (passed-sound r s [] (length out) f) (le-leb budget largest_budget h)))) ∙ run-passes f
