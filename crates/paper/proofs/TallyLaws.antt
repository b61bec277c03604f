-- CR 8, in the words of the definitions alone: "a count of cycles in H3", "one more after each cycle not refused". Each statement can be read
-- without its proof.
use Rattle.paper.proofs.Kit.{◌≡◌, refl, sym, ap, ◌∙◌, List, [], ℕ, ◌+◌, ◌<◌, ◌≤◌, arith, pos, ◌+ℤ◌, +ℤ_idr, mag, subst, zero-add}
use Rattle.paper.specs.Limits.{half_range, largest_budget}
use Rattle.paper.specs.declared.LoadAnswer.TheVariants.{Loaded}
use Rattle.paper.specs.declared.RunAnswer.{RunAnswer}
use Rattle.paper.specs.Step.{Res, done, refused}
use Rattle.paper.specs.Cell.{Term, integer, floating, integer_in, Cell, term_in, cell_at, tally_in, H, State}
use Rattle.paper.specs.Act.{Act, Refusal}
use Rattle.paper.specs.Process.{perform}
use Rattle.paper.specs.Cycle.{wrapped, one_more, work, cycle}
use Rattle.paper.specs.Run.{Outcome, outcome, run_from, run}
use Rattle.paper.specs.Deck.{load}
use Rattle.paper.specs.Plain.{after_act, plainly}
use Rattle.paper.proofs.Safe.{After, Safe}
use Rattle.paper.proofs.SoundStore.{Frame, TermRange, Sound}
use Rattle.paper.proofs.ActLaws.{Ok}
use Rattle.paper.proofs.ProcessLaws.{Kept}
use Rattle.paper.proofs.PerformLaws.{s-perform}
use Rattle.paper.proofs.WrapLaws.{wrapped-is, later}
use Rattle.paper.proofs.CycleLaws.{s-work, counted, cycle-sound, H3-range, RunOk, run_sound}
use Rattle.paper.proofs.SoundTest.{Tested, sound-from}
use Rattle.paper.proofs.Demand1.{Runnable}
use Rattle.paper.proofs.LoadLaws.{ready, Leaves, load-leaves}
use Rattle.paper.proofs.RunLines.{by-cycles}

tested : (s : State) → Runnable s → Tested s
tested s r = sound-from s r.size r.test

-- what H3 counts in a sound store
counts : {F : Frame} {s : State} → Sound F s → tally_in s.cells ≡ integer_in F.tally
counts i = ap (λ x. integer_in (term_in x)) i.tally

one-is : (t : Term) → integer_in (one_more t) ≡ wrapped (integer_in t +ℤ pos 1)
one-is t = refl

later-is : (k : ℕ) (t : Term) → integer_in (later k t) ≡ wrapped (integer_in t +ℤ pos k)
later-is k t = refl

-- an accepted cycle counts one more, step 2 as much as step 3
pub cycle-counts : (s : State) → Runnable s → After (cycle s) (λ a t. tally_in t.cells ≡ wrapped (tally_in s.cells +ℤ pos 1))
cycle-counts s r = go (cycle s) (cycle-sound (tested s r).frame s (tested s r).is_sound)
  where
    go : (q : Res State Refusal (Unit {0})) → After q (λ a t. Sound (counted (tested s r).frame) t)
        → After q (λ a t. tally_in t.cells ≡ wrapped (tally_in s.cells +ℤ pos 1))
    go (done a t) i = counts i ∙ one-is (tested s r).frame.tally ∙ ap (λ z. wrapped (z +ℤ pos 1)) (sym (counts (tested s r).is_sound))
    go (refused e) i = tt

-- whatever else keeps a store sound leaves H3
leaves : {A : Type 0} {P : Frame → A → Type 0} (m : Act A) (s : State) → Runnable s → ((F : Frame) → Safe (Ok F []) (P F) (λ _. Ok F []) m)
    → After (m s) (λ a t. cell_at t.cells (H 3) ≡ cell_at s.cells (H 3))
leaves {A} {P} m s r k = go (m s) ((k (tested s r).frame).at s (record { sound = (tested s r).is_sound; used = tt }))
  where
    go : (q : Res State Refusal A) → After q (λ a t. Ok (tested s r).frame [] t × P (tested s r).frame a)
        → After q (λ a t. cell_at t.cells (H 3) ≡ cell_at s.cells (H 3))
    go (done a t) i = i.0.sound.tally ∙ sym (tested s r).is_sound.tally
    go (refused e) i = tt

-- step 2 and step 3: so a cycle that reads H3 sees the count of those before it. No process writes it
pub work-leaves : (s : State) → Runnable s → After (work s) (λ a t. cell_at t.cells (H 3) ≡ cell_at s.cells (H 3))
work-leaves s r = leaves work s r (λ F. s-work)

pub process-leaves : (n : ℕ) (s : State) → Runnable s → After (perform n s) (λ a t. cell_at t.cells (H 3) ≡ cell_at s.cells (H 3))
process-leaves n s r = leaves (perform n) s r (λ F. s-perform n)

-- "the three actions are not cycles, so H3 is as it was"
pub plain-leaves : (m : Act (Unit {0})) → ((F : Frame) → Kept F m) → (s : State) → Runnable s
    → cell_at (plainly m s).state.cells (H 3) ≡ cell_at s.cells (H 3)
unfolding plainly after_act
plain-leaves m k s r = rw (r.size, r.test, plainly) (go (m s) (leaves m s r k))
  where
    go : (q : Res State Refusal (Unit {0})) → After q (λ a t. cell_at t.cells (H 3) ≡ cell_at s.cells (H 3))
        → cell_at (after_act s q).state.cells (H 3) ≡ cell_at s.cells (H 3)
    go (done a t) e = e
    go (refused x) e = refl

-- the cycles of a run are counted: the tally afterwards is the tally before and so many more, wrapped
pub record Tallied (s : State) (o : Outcome) : Type 0 where
  pub is : tally_in o.state.cells ≡ wrapped (tally_in s.cells +ℤ pos o.cycles)

module _ (s : State) (r : Runnable s) where
  from_start : (budget : ℕ) → RunOk (tested s r).frame budget 0 (run_from budget 0 s)
  from_start budget = run_sound (tested s r).frame budget 0 s (tested s r).is_sound

  pub cycles-counted : (budget : ℕ) → Tallied s (run_from budget 0 s)
  cycles-counted budget =
      let o = from_start budget in
      let e : o.more ≡ (run_from budget 0 s).cycles = omega (arith, o.cycles) in
      let z = sym (counts (tested s r).is_sound) in
      record { is = counts o.sound ∙ later-is o.more (tested s r).frame.tally ∙ (λ i. wrapped (z i +ℤ pos (e i))) }

  none-counted : (a : RunAnswer) → Tallied s (outcome a 0 s)
  none-counted a =
      let e : mag (tally_in s.cells) < half_range =
      rw (counts (tested s r).is_sound) (in-range (tested s r).frame.tally (H3-range (tested s r).frame s (tested s r).is_sound)) in
      record { is = sym (ap wrapped (+ℤ_idr (tally_in s.cells)) ∙ wrapped-is (tally_in s.cells) e) }
    where
      in-range : (t : Term) → TermRange t → mag (integer_in t) < half_range
      in-range (integer z) h = h
      in-range (floating b) h = omega arith

  few-cycles : (budget : ℕ) → (run budget s).cycles ≤ largest_budget
  few-cycles budget =
      by-cycles (λ o. o.cycles ≤ largest_budget) budget s
      (λ _ b. let o = from_start budget in omega (arith, o.cycles, o.most)) λ a u. omega arith

pub run-counts : (budget : ℕ) (s : State) → Runnable s → let o = run budget s in tally_in o.state.cells ≡ wrapped (tally_in s.cells +ℤ pos o.cycles)
run-counts budget s r = (by-cycles (Tallied s) budget s (λ _ _. cycles-counted s r budget) (λ a _. none-counted s r a)).is

-- so, below the wrap, the count in H3 and the cycles of the answer cannot part
pub counts-on : (budget m : ℕ) (s : State) → Runnable s → tally_in s.cells ≡ pos m → let o = run budget s in m + o.cycles < half_range
    → tally_in o.state.cells ≡ pos (m + o.cycles)
counts-on budget m s r e h = run-counts budget s r ∙ ap (λ z. wrapped (z +ℤ pos (run budget s).cycles)) e ∙ wrapped-is (pos (m + (run budget s).cycles)) h

-- and a deck's run from its load on, which counts from 0, leaves just its cycles there: they are 1,000,000 at most
pub loaded-counts : (deck : List ℕ) (before : List Cell) (budget room : ℕ) → (load deck before).answer ≡ Loaded
    → let o = run budget (ready (load deck before) room) in tally_in o.state.cells ≡ pos o.cycles
loaded-counts deck before budget room h =
    let l = load deck before in
    let k = subst (Leaves before l) h (load-leaves deck before) in
    let s = ready l room in
    counts-on budget 0 s (k.0 room) (ap (λ x. integer_in (term_in x)) k.1) (omega (arith, few-cycles s (k.0 room) budget))
    ∙ ap pos (zero-add (run budget s).cycles)
