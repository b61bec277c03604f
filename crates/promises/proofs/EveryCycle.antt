-- Demands 1 and 2 of the call machine::run, cycle by cycle: "After every cycle the free cells are exactly those on the H2 list, each once."
-- A run with a budget of k is what shows the store after k cycles. Each statement can be read without its proof.
use Rattle.paper.proofs.Kit.{clash, ℕ, zero, suc, ◌+◌, ◌-◌, ◌≤◌, ◌≡◌, refl, sym, ap, subst, ◌∙◌, Bool, true, false, List, [], inl, inr, none, some, arith}
use Rattle.paper.proofs.Kit.{length, take, drop, take-append_seam, pos, ◌+ℤ◌}
use Rattle.paper.specs.declared.Refusal.{Refusal}
use Rattle.paper.specs.declared.RunAnswer.{RunAnswer}
use Rattle.paper.specs.declared.RunAnswer.TheVariants.{Finished, BudgetSpent, Refused}
use Rattle.paper.specs.Limits.{largest_budget}
use Rattle.paper.specs.Answer.{run_number}
use Rattle.paper.specs.Cell.{Region, State, size_fits, tally_in}
use Rattle.paper.specs.Act.{Res, done, refused}
use Rattle.paper.specs.Cycle.{wrapped, cycle}
use Rattle.paper.specs.Run.{Outcome, outcome, is_finished, Turn, finishes, stops, continues, alone, joined, after_cycle, turn, on_turn, run_from}
use Rattle.paper.specs.Sound.{sound}
use Rattle.paper.proofs.Safe.{After}
use Rattle.paper.proofs.Demand1.{FreeListed, Left, free-listed, every-cycle as every_one}
use Rattle.paper.proofs.TallyLaws.{cycle-counts}
use Rattle.regions.specs.declared.Regions.{Regions}
use Rattle.regions.specs.Table.{regions_of}
use Rattle.sound.specs.Store.{state_with, store_sound}
use Rattle.sound.proofs.SoundLaws.{passed-formed, in-form}
use Rattle.cells.specs.Pack.{AllFormed}
use Rattle.cells.specs.Bridge.{state_of}
use Rattle.cells.proofs.Store.{unpacked-length}
use Rattle.regions.specs.Lent.{Tells}
use Rattle.std.specs.Prelude.{Result, Ok, Err}
use Rattle.cycle.specs.Turns.{state_at, cycled, Came, Turns}
use Rattle.machine.specs.declared.Ran.{Ran}
use Rattle.machine.specs.Numbers.{numbers, cycles_on, run_on}
use Rattle.machine.proofs.RunLaws.{run-finishes, run-spent, run-cycles}
use Rattle.machine.proofs.Carried.{Before, Way, small, unsound, ran, way, given, after, tested, sound-after, numbered, answer-is, cells_are, out-is, runnable}
use Rattle.machine.proofs.Carried.{tabled, cycles-are, len_is, run-keeps-sound, run-keeps-size, run-keeps-past, run-lists-free, run-within-budget}
use Rattle.promises.specs.Cycles.{after_cycles, tally_of, EndsAs}

-- a turn that goes on
module _ (t u : State) (e : turn t ≡ continues u) where
  run-next : (left n : ℕ) → run_from (suc left) n t ≡ run_from left (suc n) u
  unfolding run_from on_turn
  run-next left n = rw (e, run_from)

  cycles-next : (k : ℕ) → after_cycles (suc k) t ≡ after_cycles k u
  unfolding after_cycles on_turn
  cycles-next k = rw (e, after_cycles)

-- one cycle more is one turn more
cycles-then : (k : ℕ) (s t u : State) → after_cycles k s ≡ some t → after_cycles (suc k) s ≡ some u → turn t ≡ continues u
unfolding after_cycles on_turn
cycles-then zero s t u p q = go (turn t) refl (let e : s ≡ t = cc in rw e at q)
  where
    go : (x : Turn) → turn t ≡ x → on_turn x none (λ _. none) (λ t. some t) ≡ some u → turn t ≡ continues u
    go finishes e h = clash cc
    go (stops r) e h = clash cc
    go (continues v) e h = let w : v ≡ u = cc in e ∙ ap continues w
cycles-then (suc k) s t u p q = go (turn s) p q (λ v. cycles-then k v t u)
  where
    go : (x : Turn) → on_turn x none (λ _. none) (λ v. after_cycles k v) ≡ some t → on_turn x none (λ _. none) (λ v. after_cycles (suc k) v) ≡ some u
        → ((v : State) → after_cycles k v ≡ some t → after_cycles (suc k) v ≡ some u → turn t ≡ continues u) → turn t ≡ continues u
    go finishes p q f = clash cc
    go (stops r) p q f = clash cc
    go (continues v) p q f = f v p q

-- so many cycles given as the budget are done, and come where so many cycles come
record Shown (k n : ℕ) (t : State) : Type 0 where
  cycles : (run_from k n t).cycles ≡ n + k
  after : after_cycles k t ≡ some (run_from k n t).state

-- of as many as a run has done, or fewer
shown : (left n k : ℕ) (t : State) → n + k ≤ (run_from left n t).cycles → Shown k n t
unfolding run_from on_turn after_cycles
shown left n zero t h = record { cycles = omega arith; after = refl }
shown zero n (suc k) t h = absurd (omega (arith, h))
shown (suc left) n (suc k) t h = go (turn t) refl (λ u. shown left (suc n) k u)
  where
    go : (x : Turn) → turn t ≡ x → ((u : State) → suc n + k ≤ (run_from left (suc n) u).cycles → Shown k (suc n) u) → Shown (suc k) n t
    go finishes e f = let z : n + suc k ≤ n = rw (e, run_from) at h in absurd (omega arith)
    go (stops q) e f = let z : n + suc k ≤ n = rw (e, run_from) at h in absurd (omega arith)
    go (continues u) e f =
        let l = ap (λ (o : Outcome). o.cycles) (run-next t u e left n) in
        let r = f u (omega (arith, h, l)) in
        let o = run-next t u e k n in
        record {
          cycles = ap (λ (o : Outcome). o.cycles) o ∙ r.cycles ∙ (omega arith);
          after = cycles-next t u e k ∙ r.after ∙ ap (λ (o : Outcome). some o.state) (sym o);
        }

-- a run ends where its cycles have come, and for the reason that its answer says
record Ended (left n : ℕ) (t : State) (o : Outcome) : Type 0 where
  done : ℕ
  cycles : o.cycles ≡ n + done
  after : after_cycles done t ≡ some o.state
  why : EndsAs (n + left) o.cycles o.state o.answer

module _ (n : ℕ) (t : State) where
  at_once : (left : ℕ) (a : RunAnswer) → run_from left n t ≡ outcome a n t → EndsAs (n + left) n t a → Ended left n t (run_from left n t)
  unfolding after_cycles
  at_once left a e w = subst (Ended left n t) (sym e) (record { done = 0; cycles = omega arith; after = refl; why = w })

  at-cycle : (j : ℕ) → is_finished t ≡ false → ((u : State) → Ended j (suc n) u (run_from j (suc n) u)) → Ended (suc j) n t (run_from (suc j) n t)
  unfolding run_from turn on_turn after_cycle
  at-cycle j p f = go (cycle (alone t)) refl
    where
      go : (x : Res State Refusal (Unit {0})) → cycle (alone t) ≡ x → Ended (suc j) n t (run_from (suc j) n t)
      go (refused e) q = at_once (suc j) (Refused e) (rw (p, turn, q)) (p, omega arith, q)
      go (done a v) q =
          let u = joined t v in
          let e : turn t ≡ continues u = rw (p, turn, q) in
          let r = f u in
          let m : suc n + j ≡ n + suc j = omega arith in
          subst (Ended (suc j) n t) (sym (run-next t u e j n)) (record {
            done = suc r.done;
            cycles = r.cycles ∙ (omega arith);
            after = cycles-next t u e r.done ∙ r.after;
            why = subst (λ b. EndsAs b (run_from j (suc n) u).cycles (run_from j (suc n) u).state (run_from j (suc n) u).answer) m r.why;
          })

  by-finish : (left : ℕ) → (is_finished t ≡ false → Ended left n t (run_from left n t)) → Ended left n t (run_from left n t)
  by-finish left f = go (is_finished t) refl
    where
      go : (b : Bool) → is_finished t ≡ b → Ended left n t (run_from left n t)
      go true p = at_once left Finished (run-finishes t n left p) p
      go false p = f p

ended : (left n : ℕ) (t : State) → Ended left n t (run_from left n t)
ended zero n t = by-finish n t 0 (λ p. at_once n t 0 BudgetSpent (run-spent t n p) (p, omega arith))
ended (suc j) n t = by-finish n t (suc j) (λ p. at-cycle n t j p (λ u. ended j (suc n) u))

-- numbers and bytes that a run left are those of the state that its cycles came to
module _ (regions : Regions) (s out : List ℕ) (size : size_fits (length s) ≡ true) (passes : store_sound regions s ≡ true) (k : ℕ) (few : k ≤ largest_budget)
    {r : Ran} {s' out' : List ℕ} (allowed : numbers r s' out' ≡ run_on regions k s out)
  where
    abbrev came : State
    came = after regions s size passes k out

    comes : cycles_on (regions_of regions) k s out ≡ run_on regions k s out
    comes = run-cycles regions k s out size few passes

    lines_are : take r.len out' ≡ came.lines
    lines_are = rw (out-is regions k s out allowed comes, len_is regions k s out allowed comes) (take-append_seam came.lines _)

    room-is : length out' - r.len ≡ came.room
    room-is = omega (
      arith,
      (run-keeps-past regions k s out allowed).2,
      len_is regions k s out allowed comes,
      (sound-after regions s size passes k out).lines,
      (tested regions s size passes k out).out-is,
    )

    state-is : state_at (regions_of regions) s' out' r.len ≡ came
    state-is =
        (λ i. state_of (record { regions = regions_of regions; lines = lines_are i; room = room-is i }) (cells_are regions k s out allowed comes i))
        ∙ numbered regions s size passes k out

-- What a run with a budget of k left of the numbers s and the bytes out, where k cycles were done
pub record AfterCycles (regions : Regions) (s out : List ℕ) (k : ℕ) (r : Ran) (s' out' : List ℕ) : Type 0 where
  -- it has done k cycles, and numbers and lines are those of the definition's state after k cycles; no other byte has changed
  pub cycles : r.cycles ≡ k
  pub after : after_cycles k (state_with regions s [] (length out)) ≡ some (state_at (regions_of regions) s' out' r.len)
  pub past : drop r.len out' ≡ drop r.len out
  -- "the free cells are exactly those on the H2 list, each once"; the numbers are as many, and pass the test again
  pub listed : FreeListed (state_with regions s' [] 0)
  pub many : length s' ≡ length s
  pub sound : store_sound regions s' ≡ true

-- Whatever a run answers, if that is neither 1 nor 20
module _ (regions : Regions) (budget : ℕ) (s out : List ℕ) {r : Ran} {s' out' : List ℕ} (allowed : numbers r s' out' ≡ run_on regions budget s out)
    (began : Before r.answer → ⊥)
  where
    -- it was given a store that passes the test, and no more than the largest budget
    pub was-sound : (size_fits (length s) ≡ true) × (store_sound regions s ≡ true) × (budget ≤ largest_budget)
    was-sound = go (way regions budget s out)
      where
        go : Way regions budget s out → (size_fits (length s) ≡ true) × (store_sound regions s ≡ true) × (budget ≤ largest_budget)
        go (small e) = absurd (began (inl (ap run_number (answer-is regions budget s out allowed e))))
        go (unsound e) = absurd (began (inr (ap run_number (answer-is regions budget s out allowed e))))
        go (ran size f k e) = (size, f, k)

    -- after each of its cycles: of every outcome of the run that is given as many cycles as its budget
    pub every-cycle : (k : ℕ) → k ≤ r.cycles → {rₖ : Ran} {sₖ outₖ : List ℕ} → numbers rₖ sₖ outₖ ≡ run_on regions k s out
        → AfterCycles regions s out k rₖ sₖ outₖ
    every-cycle k h a =
        let (size, f, few) = was-sound in
        let fewer : k ≤ largest_budget = omega (arith, h, few, run-within-budget regions budget s out allowed) in
        let done = cycles-are regions budget s out allowed (run-cycles regions budget s out size few f) in
        let w = shown budget 0 k (given regions s size f budget out) (omega (arith, h, done)) in
        record {
          cycles = cycles-are regions k s out a (run-cycles regions k s out size fewer f) ∙ w.cycles ∙ (omega arith);
          after = w.after ∙ ap some (sym (state-is regions s out size f k fewer a));
          past = (run-keeps-past regions k s out a).0;
          listed = run-lists-free regions k s out a size f;
          many = run-keeps-size regions k s out a;
          sound = run-keeps-sound regions k s out a f;
        }

    -- from one of these to the next is one turn of the definition
    pub next-cycle : (k : ℕ) → suc k ≤ r.cycles → {rₖ rₙ : Ran} {sₖ sₙ outₖ outₙ : List ℕ}
        → numbers rₖ sₖ outₖ ≡ run_on regions k s out
        → numbers rₙ sₙ outₙ ≡ run_on regions (suc k) s out
        → turn (state_at (regions_of regions) sₖ outₖ rₖ.len) ≡ continues (state_at (regions_of regions) sₙ outₙ rₙ.len)
    next-cycle k h a b = cycles-then k (state_with regions s [] (length out)) _ _ (every-cycle k (omega (arith, h)) a).after (every-cycle (suc k) h b).after

    -- it ends in the definition's state after as many cycles as it says, and for the reason that it says
    pub run_ends : (after_cycles r.cycles (state_with regions s [] (length out)) ≡ some (state_at (regions_of regions) s' out' r.len))
        × EndsAs budget r.cycles (state_at (regions_of regions) s' out' r.len) r.answer
    run_ends =
        let (size, f, few) = was-sound in
        let e = ended budget 0 (given regions s size f budget out) in
        let w = run-cycles regions budget s out size few f in
        let t = state-is regions s out size f budget few allowed in
        let c = cycles-are regions budget s out allowed w in
        let m : e.done ≡ r.cycles = omega (arith, c, e.cycles) in
        let b : 0 + budget ≡ budget = omega arith in (
          ap (λ k. after_cycles k (given regions s size f budget out)) (sym m) ∙ e.after ∙ ap some (sym t),
          rw (t, c, answer-is regions budget s out allowed w) (rw b at e.why),
        )

-- What a call of cycle::cycle leaves of the numbers s and the bytes out. Ok: the free cells are exactly those on the H2 list, each once,
-- the numbers pass the test again, and H3 counts one more. Err: "leaves cells and printed lines as it found them"
abbrev pub Leaves : Regions → (s out s' out' : List ℕ) → Result ℕ Refusal → Type 0
Leaves regions s out s' out' (Ok n) =
    FreeListed (state_with regions s' [] 0) × (store_sound regions s' ≡ true) × (length s' ≡ length s) × (tally_of s' ≡ wrapped (tally_of s +ℤ pos 1))
Leaves regions s out s' out' (Err e) = (s' ≡ s) × (out' ≡ out)

-- on numbers that pass the test, with a table that tells the same regions
module _ (regions : Regions) (s out : List ℕ) (at : ℕ) (size : size_fits (length s) ≡ true) (passes : store_sound regions s ≡ true)
    (table : List ℕ) (tells : Tells table (regions_of regions))
  where
    abbrev before : State
    before = state_at (regions_of regions) s out at

    -- what an accepted cycle leaves
    passes_on : (s' out' : List ℕ) (n : ℕ) → AllFormed s' → cycled before ≡ continues (state_at (regions_of regions) s' out' n)
        → (store_sound regions s' ≡ true) × (length s' ≡ length s) × (tally_of s' ≡ wrapped (tally_of s +ℤ pos 1))
    unfolding after_cycle sound
    passes_on s' out' n f e =
        let r = runnable regions s size passes [] (length out - at) in
        go (cycle (alone before)) (every_one (alone before) r) (cycle-counts (alone before) r) e
      where
        go : (x : Res State Refusal (Unit {0})) → After x (λ a v. Left (alone before) v)
            → After x (λ a v. tally_in v.cells ≡ wrapped (tally_of s +ℤ pos 1))
            → after_cycle before x ≡ continues (state_at (regions_of regions) s' out' n)
            → (store_sound regions s' ≡ true) × (length s' ≡ length s) × (tally_of s' ≡ wrapped (tally_of s +ℤ pos 1))
        go (done a v) l z q =
            let j : joined before v ≡ state_at (regions_of regions) s' out' n = cc in (
              in-form regions s' (take n out') (length out' - n) (tabled regions s size passes) f ∙ ap sound (sym j) ∙ l.runnable.test,
              sym (unpacked-length s') ∙ ap (λ (w : State). length w.cells) (sym j) ∙ l.within.cells ∙ unpacked-length s,
              ap (λ (w : State). tally_in w.cells) (sym j) ∙ z,
            )
        go (refused q) l z p = clash cc

    -- of every outcome that the contract of cycle::cycle allows
    pub cycle-leaves : {s' out' log : List ℕ} (c : Result ℕ Refusal)
        → ((rs : List Region) → Tells table rs → Turns rs s out at s' out' log c)
        → Leaves regions s out s' out' c
    unfolding Came
    cycle-leaves {s'} {out'} (Ok n) h =
        let k = h (regions_of regions) tells in
        let (f, m, z) = passes_on s' out' n (k.formed (passed-formed regions s passes)) k.came.0 in
        (free-listed (state_with regions s' [] 0) (runnable regions s' (ap size_fits m ∙ size) f [] 0), f, m, z)
    cycle-leaves (Err e) h = let k = h (regions_of regions) tells in (k.came.1, k.came.2)
