-- The lines of a run have at most `longest_line` bytes for each of its cycles; and a run that has this much room for each cycle of its budget is not
-- refused by 30. What it prints is whole lines. All this holds of any state: one that is not run does no cycle.
use Rattle.paper.proofs.Kit.{clash, List, [], ◌∷◌, ◌++◌, append_assoc, append-nil, ◌≡◌, ◌≢◌, refl, ap, subst, ◌∙◌, Bool, true, false, cond, ◌&&◌, ℕ, zero}
use Rattle.paper.proofs.Kit.{suc, ◌+◌, ◌*◌, ◌≤◌, leb, leb-true, arith, length}
use Rattle.paper.specs.Limits.{largest_budget, longest_line}
use Rattle.paper.specs.Step.{Res, done, refused}
use Rattle.paper.specs.Cell.{size_fits, State}
use Rattle.paper.specs.Act.{Refusal, NoRoom}
use Rattle.paper.specs.Cycle.{cycle}
use Rattle.paper.specs.Sound.{sound}
use Rattle.paper.specs.declared.RunAnswer.{RunAnswer}
use Rattle.paper.specs.declared.RunAnswer.TheVariants.{Finished, BadSize, BudgetSpent, NotSound, Refused}
use Rattle.paper.specs.Run.{is_finished, Outcome, outcome, Turn, finishes, stops, continues, alone, joined, after_cycle, turn, on_turn, run_from, run}
use Rattle.paper.proofs.Safe.{After}
use Rattle.paper.proofs.Demand1.{Runnable, Left, every-cycle, every-run}
use Rattle.paper.specs.Print.{feed_byte}
use Rattle.paper.proofs.PrintLaws.{Ended, nothing, fed}
use Rattle.paper.proofs.ListedLaws.{Means}
use Rattle.paper.proofs.CycleLines.{Few, cycle-line}

-- the answers of a run that did nothing
abbrev pub Unrun : RunAnswer → Type 0
Unrun BadSize = Unit {0}
Unrun NotSound = Unit {0}
Unrun Finished = ⊥
Unrun BudgetSpent = ⊥
Unrun (Refused e) = ⊥

-- bytes that a line feed ends, one after the other
ended-both : {xs ys : List ℕ} → Ended xs → Ended ys → Ended (xs ++ ys)
ended-both {xs} h nothing = rw (append-nil xs) h
ended-both {xs} h (fed ys) = subst Ended (append_assoc xs ys (feed_byte ∷ [])) (fed (xs ++ ys))

-- what a cycle of a run leaves of its room and its lines
pub record Onward (s t : State) : Type 0 where
  pub runnable : Runnable t
  pub room : s.room ≤ t.room + longest_line
  pub ends : Ended s.lines → Ended t.lines

module _ (s : State) (r : Runnable s) where
  alone-runs : Runnable (alone s)
  unfolding sound
  alone-runs = record { size = r.size; test = r.test }

  goes_on : (t : State) → turn s ≡ continues t → Onward s t
  unfolding turn is_finished after_cycle sound
  goes_on t e = go (is_finished s) (cycle (alone s)) (cycle-line (alone s) alone-runs) (every-cycle (alone s) alone-runs) e
    where
      go : (b : Bool) (q : Res State Refusal (Unit {0})) → Few (alone s) q → After q (λ a u. Left (alone s) u)
          → ◌≡◌ {A = Turn} (elim b as (λ _. Turn) [ true ↦ finishes | false ↦ after_cycle s q ]) (continues t) → Onward s t
      go true q p l e = clash cc
      go false (refused x) p l e = clash cc
      go false (done a u) p l e =
          let same : joined s u ≡ t = cc in
          subst (Onward s) same
          (record {
            runnable = record { size = l.runnable.size; test = l.runnable.test };
            room = omega (arith, p.short, p.room);
            ends = λ h. ended-both h (rw p.lines p.ends);
          })

  -- what refuses a cycle of a run
  stops_as : (e : Refusal) → turn s ≡ stops e → Means s e
  unfolding turn is_finished after_cycle
  stops_as e h = go (is_finished s) (cycle (alone s)) (cycle-line (alone s) alone-runs) h
    where
      go : (b : Bool) (q : Res State Refusal (Unit {0})) → Few (alone s) q
          → ◌≡◌ {A = Turn} (elim b as (λ _. Turn) [ true ↦ finishes | false ↦ after_cycle s q ]) (stops e) → Means s e
      go true q p h = clash cc
      go false (done a u) p h = clash cc
      go false (refused x) p h = let same : x ≡ e = cc in subst (Means s) same (record { at-28 = p.at-28; at-30 = p.at-30 })

-- what is so of a refused cycle, where I holds with the budget left before each cycle, is so of a run that is refused
pub refused_as : (I : ℕ → State → Type 0) (Q : Refusal → Type 0) → ((k : ℕ) (s t : State) → Onward s t → I (suc k) s → I k t)
    → ((k : ℕ) (s : State) (e : Refusal) → Means s e → I (suc k) s → Q e)
    → (budget n : ℕ) (s : State) → Runnable s → I budget s → (e : Refusal) → (run_from budget n s).answer ≡ Refused e → Q e
unfolding run_from on_turn
refused_as I Q f g zero n s r i e h = go (is_finished s) h
  where
    go : (b : Bool) → cond b Finished BudgetSpent ≡ Refused e → Q e
    go true h = clash cc
    go false h = clash cc
refused_as I Q f g (suc budget) n s r i e h = go (turn s) refl (λ t k j. refused_as I Q f g budget (suc n) t k j e) h
  where
    go : (t : Turn) → turn s ≡ t → ((u : State) → Runnable u → I budget u → (run_from budget (suc n) u).answer ≡ Refused e → Q e)
        → (on_turn {A = Outcome} t (outcome Finished n s) (λ x. outcome (Refused x) n s) (λ u. run_from budget (suc n) u)).answer ≡ Refused e → Q e
    go finishes q ih h = clash cc
    go (stops x) q ih h = let same : x ≡ e = cc in g budget s e (stops_as s r e (q ∙ ap stops same)) i
    go (continues t) q ih h = let k = goes_on s r t q in ih t k.runnable (f budget s t k i) h

room-for-all : (budget : ℕ) (s : State) → Runnable s → budget * longest_line ≤ s.room → (e : Refusal) → (run_from budget 0 s).answer ≡ Refused e → e ≢ NoRoom
room-for-all budget s =
    refused_as (λ k u. k * longest_line ≤ u.room) (λ e. e ≢ NoRoom) (λ k u t o i. omega (arith, o.room))
    (λ k u e m i h. omega (arith, m.at-30 h)) budget 0 s

-- what each cycle keeps, a run keeps
along : (P : ℕ → State → Type 0) → ((n : ℕ) (s t : State) → Onward s t → P n s → P (suc n) t)
    → (budget n : ℕ) (s : State) → Runnable s → P n s → let o = run_from budget n s in P o.cycles o.state
unfolding run_from on_turn
along P f zero n s r h = h
along P f (suc budget) n s r h = go (turn s) refl (λ t k p. along P f budget (suc n) t k p)
  where
    go : (t : Turn) → turn s ≡ t → ((u : State) → Runnable u → P (suc n) u → let o = run_from budget (suc n) u in P o.cycles o.state)
        → (let o = on_turn {A = Outcome} t (outcome Finished n s) (λ x. outcome (Refused x) n s) (λ u. run_from budget (suc n) u) in P o.cycles o.state)
    go finishes q ih = h
    go (stops x) q ih = h
    go (continues t) q ih = let k = goes_on s r t q in ih t k.runnable (f n s t k h)

room-used : (budget : ℕ) (s : State) → Runnable s → let o = run_from budget 0 s in s.room ≤ o.state.room + o.cycles * longest_line
room-used budget s r = along (λ n u. s.room ≤ u.room + n * longest_line) (λ n u t k h. omega (arith, k.room)) budget 0 s r (omega arith)

-- what is so of the cycles of a run, and of one that does none, is so of the public run
pub by-cycles : (P : Outcome → Type 0) (budget : ℕ) (s : State) → (Runnable s → budget ≤ largest_budget → P (run_from budget 0 s))
    → ((a : RunAnswer) → Unrun a → P (outcome a 0 s)) → P (run budget s)
unfolding run
by-cycles P budget s h k = go (size_fits (length s.cells)) refl (sound s) refl (leb budget largest_budget) refl
  where
    go : (a : Bool) → size_fits (length s.cells) ≡ a → (b : Bool) → sound s ≡ b → (c : Bool) → leb budget largest_budget ≡ c → P (elim a as (λ _. Outcome) [
      | false ↦ outcome BadSize 0 s
      | true ↦ elim (b && c) as (λ _. Outcome) [ false ↦ outcome NotSound 0 s | true ↦ run_from budget 0 s ]
    ])
    go true f true t true l = h (record { size = f; test = t }) (leb-true budget largest_budget l)
    go true f true t false l = k NotSound tt
    go true f false t true l = k NotSound tt
    go true f false t false l = k NotSound tt
    go false f b t c l = k BadSize tt

pub enough-room : (budget : ℕ) (s : State) → budget * longest_line ≤ s.room → (run budget s).answer ≡ Refused NoRoom → ⊥
enough-room budget s h =
    by-cycles (λ o. o.answer ≡ Refused NoRoom → ⊥) budget s (λ r _ e. room-for-all budget s r h NoRoom e refl) λ a u e. subst Unrun e u

pub lines-short : (budget : ℕ) (s : State) → let o = run budget s in length o.state.lines ≤ length s.lines + o.cycles * longest_line
lines-short budget s =
    by-cycles (λ o. length o.state.lines ≤ length s.lines + o.cycles * longest_line) budget s
    (λ r _. omega (arith, room-used budget s r, (every-run budget 0 s r).within.room)) λ a u. omega arith

-- whole lines: where those before end with a line feed, or there are none, so do all
pub lines-whole : (budget : ℕ) (s : State) → Ended s.lines → Ended (run budget s).state.lines
lines-whole budget s h =
    by-cycles (λ o. Ended o.state.lines) budget s (λ r _. along (λ n u. Ended u.lines) (λ n u t k. k.ends) budget 0 s r h) λ a u. h
