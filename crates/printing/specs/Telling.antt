-- The contracts of what prints: code that follows a block over the lent cells, their log, and the bytes of the line, of which a cycle has none
-- at first.
use Rattle.std.specs.Prelude.{ℕ, ◌-◌, ◌≤◌, ◌≡◌, List, [], length, take, drop, Result, Ok, Err}
use Rattle.std.proofs.Math.Seq.{paste}
use Rattle.paper.specs.declared.Refusal.{Refusal}
use Rattle.paper.specs.Region.{Region}
use Rattle.paper.specs.Cell.{State}
use Rattle.paper.specs.Act.{Act, ◌>>◌, pop}
use Rattle.paper.specs.Print.{print_line}
use Rattle.cells.specs.Bridge.{Rest, state_of}
use Rattle.steps.specs.Follows.{World, Follows, seen_as}
use Rattle.regions.specs.Lent.{Tells}
use Rattle.undo.specs.Did.{Kept, lent, Lent, Shown}

-- what of a state is neither cells nor lines: the regions, and the room there was for the line
pub record Heard : Type 0 where
  pub regions : List Region
  pub room : ℕ

-- after the bytes t
abbrev pub after : Heard → List ℕ → Rest
after e t = record { regions = e.regions; lines = t; room = e.room - length t }

abbrev pub telling : World State Refusal
telling =
    record {
      Held = (List ℕ × List ℕ) × List ℕ;
      Rest = Heard;
      state = λ e x. state_of (after e x.1) x.0.0;
      Kept = λ k x y. Kept k x.0 y.0;
      same = λ x. lent.same x.0;
      joined = λ k j x y z p q. lent.joined k j x.0 y.0 z.0 p q;
      more = λ k i x y h p. lent.more k i x.0 y.0 h p;
    }

-- what is known of the rest: the regions, and the room
pub record Hears (rs : List Region) (n : ℕ) (e : Heard) : Type 0 where
  pub regions : e.regions ≡ rs
  pub room : e.room ≡ n

-- the bytes of the output from `at` to `end`
abbrev pub line_in : List ℕ → ℕ → ℕ → List ℕ
line_in out at end = take (end - at) (drop at out)

-- where the output ends after an answer: where that says; after a refusal where it ended
abbrev pub end_of : ℕ → Result ℕ Refusal → ℕ
end_of at (Ok n) = n
end_of at (Err e) = at

-- the output d has become d': the line stands in it from `at` to where it ends now, and the other bytes are as they were; a refusal has no
-- line
pub record Stands (d : List ℕ) (at : ℕ) (d' : List ℕ) (r : Result ℕ Refusal) : Type 0 where
  pub sized : length d' ≡ length d
  pub pastes : d' ≡ paste d at (line_in d' at (end_of at r)) (end_of at r - at)
  pub starts : at ≤ end_of at r
  pub ends : end_of at r ≤ length d
  pub unchanged : (e : Refusal) → r ≡ Err e → d' ≡ d

-- M has been followed from x to y, for all regions that the table tells, in at most k writes, and t is its line
abbrev pub Comes : {A : Type 0} → List ℕ → ℕ → Act A → List ℕ × List ℕ → List ℕ → ℕ → List ℕ × List ℕ → List ℕ → Result A Refusal → Type 0
Comes table k M x d at y t r = (rs : List Region) → Tells table rs → Follows telling (Hears rs (length d - at)) k M (x, []) (y, t) r

-- and the line stands in the output, d before and d' after; e says where that ends, and r the block's value
pub record Printing {A : Type 0} (table : List ℕ) (k : ℕ) (M : Act A) (x : List ℕ × List ℕ) (d : List ℕ) (at : ℕ) (y : List ℕ × List ℕ) (d' : List ℕ)
    (e : Result ℕ Refusal) (r : Result A Refusal) : Type 0 where
  pub follows : Comes table k M x d at y (line_in d' at (end_of at e)) r
  pub stands : Stands d at d' e

-- the contract of a process: its value v, the lent table, cells, log and output, and where the output has been written so far; r is the
-- refusal, or where the output ends now
abbrev pub Prints : {A : Type 0} → Act A → A → Lent → Lent → Shown → Lent → ℕ → Result ℕ Refusal → Type 0
Prints M v cells log table out at r =
    Printing table.entry.now 1 M (cells.entry.now, log.entry.now) out.entry.now at (cells.exit.now, log.exit.now)
    out.exit.now r (seen_as (λ _. v) r)

-- how J152 and J153 end
abbrev pub print_pop : List ℕ → Act (Unit {0})
print_pop t = print_line t >> pop
