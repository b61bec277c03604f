-- The contracts of actions: what code has done that follows a block over the lent cells and their log. What of a state
-- is not in the cells (`Rest`) is quantified over, and K says what is known of it.
use Rattle.std.specs.Prelude.{ℕ, ◌+◌, ◌≤◌, ◌≡◌, refl, Bool, cond, ◌&&◌, List, ltb, Result}
use Rattle.std.proofs.Common.{◌∙◌, arith}
use denote.Triple.Both.{Both}
use Rattle.std.specs.Borrow.{Bor, MutBor}
use Rattle.paper.specs.declared.Symbol.{Symbol}
use Rattle.paper.specs.declared.Refusal.{Refusal}
use Rattle.paper.specs.Limits.{first_deck}
use Rattle.paper.specs.Cell.{State, end_of_regions, regional, internal}
use Rattle.paper.specs.Act.{Act}
use Rattle.cells.specs.Pack.{AllFormed}
use Rattle.cells.specs.Bridge.{Rest, state_of}
use Rattle.steps.specs.Follows.{World, Follows, testing, seen_as}
use Rattle.steps.specs.Follows as steps
use Rattle.undo.specs.Log.{used, rewind_of, Fits}

-- nothing is known of the rest; the regions end at `top`
abbrev pub Always : Rest → Type 0
Always e = Unit {0}

abbrev pub Top : ℕ → Rest → Type 0
Top top e = end_of_regions e.regions first_deck ≡ top

-- room for k more writes, and `top` is where regions can end: a contract over `Top top` speaks of some state (Leaves.suited)
pub record Suits (l : List ℕ) (k top : ℕ) : Type 0 where
  pub fits : Fits l k
  pub ends : first_deck ≤ top

-- `reserved` and `name_of` where the regions end at `top`
abbrev pub reserved_by : ℕ → ℕ → Bool
reserved_by top c = ltb 0 c && ltb c top

abbrev pub name_by : ℕ → ℕ → Symbol
name_by top c = cond (reserved_by top c) (regional c) (internal c)

-- cells and log: the log leads back to where it led; it has at most k writes more; formed stays formed
pub record Kept (k : ℕ) (x y : List ℕ × List ℕ) : Type 0 where
  pub back : rewind_of y.1 y.0 ≡ rewind_of x.1 x.0
  pub count : used y.1 ≤ used x.1 + k
  pub formed : AllFormed x.0 → AllFormed y.0

-- the world of what only reads the cells, and of what writes them and their log
abbrev pub reading : World State Refusal
reading =
    record {
      Held = List ℕ;
      Rest = Rest;
      state = state_of;
      Kept = λ k x y. Unit {0};
      same = λ x. tt;
      joined = λ k j x y z p q. tt;
      more = λ k i x y h p. tt;
    }

abbrev pub lent : World State Refusal
lent =
    record {
      Held = List ℕ × List ℕ;
      Rest = Rest;
      state = λ e x. state_of e x.0;
      Kept = Kept;
      same = λ x. record { back = refl; count = omega arith; formed = λ h. h };
      joined = λ k j x y z p q. record { back = q.back ∙ p.back; count = omega arith; formed = λ h. q.formed (p.formed h) };
      more = λ k i x y h p. record { back = p.back; count = omega arith; formed = p.formed };
    }

-- Contracts. A lent slice, before and after; one that is only read; and what the code answers.
abbrev pub Lent : Type 0
Lent = Both (MutBor (List ℕ)) (MutBor (List ℕ))

abbrev pub Shown : Type 0
Shown = Both (Bor (List ℕ)) (Bor (List ℕ))

-- a test: no state is read or written
abbrev pub Judged : Act (Unit {0}) → Result (Unit {0}) Refusal → Type 0
Judged M r = Follows (testing State Refusal) steps.Always 0 M tt tt r

-- a part of the state is v
abbrev pub Sees : {A : Type 0} → (Rest → Type 0) → Act A → Shown → A → Type 0
Sees K M cells v = steps.Sees reading K M cells.entry.now v

-- a value is read, or the reading is refused; f tells what the code's value is
abbrev pub Reads : {A : Type 0} → (Rest → Type 0) → Act A → Shown → Result A Refusal → Type 0
Reads K M cells r = Follows reading K 0 M cells.entry.now cells.entry.now r

abbrev pub ReadsAs : {A B : Type 0} → (B → A) → (Rest → Type 0) → Act A → Shown → Result B Refusal → Type 0
ReadsAs f K M cells r = Reads K M cells (seen_as f r)

-- what writes, in at most k writes that are logged
abbrev pub Did : {A : Type 0} → (Rest → Type 0) → ℕ → Act A → Lent → Lent → Result A Refusal → Type 0
Did K k M cells log r = Follows lent K k M (cells.entry.now, log.entry.now) (cells.exit.now, log.exit.now) r
