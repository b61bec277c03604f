-- What code that decides by the number of a process owes, an arm at a time: `search arms` finds an arm's proof, whatever its number; the last
-- arm, of what is not listed, is `unlisted`. But for J1, which the cycle does, control goes on after a process.
use Rattle.paper.proofs.Kit.{ℕ, ◌+◌, ◌-◌, ◌≤◌, ◌≡◌, true, List, some, le_refl, arith, lit≤}
use Rattle.std.specs.Prelude.{Result, Ok, Err}
use Rattle.paper.specs.declared.Refusal.{Refusal}
use Rattle.paper.specs.declared.Refusal.TheVariants.{NotListed}
use Rattle.paper.specs.Cell.{State, J}
use Rattle.paper.specs.Act.{Act}
use Rattle.paper.specs.Process.{Next, then_on, Entry, one, ten, listed, perform}
use Rattle.steps.specs.Follows.{Follows, World}
use Rattle.acts.specs.GoesOn.{going_on}
use Rattle.steps.proofs.Rest as last_arm
use Rattle.steps.proofs.Listed.{entry_for, none_for, entry-does, none-does}
use Rattle.steps.proofs.Sequence.{then, then_err, give, alike, most, under, stop}

-- a block after which control goes on
pub goes_under : {W : World State Refusal} {K : W.Rest → Type 0} {k : ℕ} {M : Act (Unit {0})} {x y : W.Held} (r : Result (Unit {0}) Refusal)
    → Follows W K k M x y r → Follows W K k (then_on M) x y (going_on r)
unfolding then_on
goes_under {k = k} (Ok v) d = most k (omega arith) (then d give)
goes_under (Err c) d = then_err _ d

module _ {W : World State Refusal} {K : W.Rest → Type 0} {x y : W.Held} {k i n : ℕ} {r : Result Next Refusal} where
  -- the entry e has all numbers from `low` to `high`
  pub entered : (e : Entry) (low high : ℕ) → entry_for listed low high ≡ some e → low ≤ n → n ≤ high → k ≤ i
      → Follows W K k (e.does (n - e.from)) x y r → Follows W K i (perform n) x y r
  unfolding perform
  entered e low high h p q m d = most i m (alike (entry-does listed e low high n h p q) d)

module _ {W : World State Refusal} {K J : W.Rest → Type 0} {x y : W.Held} {k i n : ℕ} {r : Result (Unit {0}) Refusal} where
  -- an arm of the number m: it calls what the one entry of that number does
  pub arm : (m : ℕ) (M : Act (Unit {0})) → Follows W J k M x y r → ((e : W.Rest) → K e → J e) → n ≡ m → entry_for listed m m ≡ some (one m M)
      → k ≤ i → Follows W K i (perform n) x y (going_on r)
  arm m M d w e h b = entered (one m M) m m h (omega arith) (omega arith) b (goes_under r (under w d))

  -- an arm of the ten numbers from m on
  pub tens : (m : ℕ) (f : ℕ → Act (Unit {0})) → entry_for listed m (m + 9) ≡ some (ten m f) → m ≤ n → n ≤ m + 9 → k ≤ i
      → Follows W J k (f (n - m)) x y r → ((e : W.Rest) → K e → J e) → Follows W K i (perform n) x y (going_on r)
  tens m f h p q b d w = entered (ten m f) m (m + 9) h p q b (goes_under r (under w d))

-- none of the numbers from `low` to `high` is listed, but for those that the arms before name
pub unlisted : {W : World State Refusal} {K : W.Rest → Type 0} {x : W.Held} {i : ℕ} (low high n : ℕ) (ks : List ℕ)
    → none_for listed low high ks ≡ true → low ≤ n → n ≤ high → last_arm.Rest (Unit {0}) ks n
    → Follows W K i (perform n) x x (Err (NotListed (J n)))
unfolding perform
unlisted {W} {x = x} {i = i} low high n ks h p q z = alike (none-does listed low high n ks h p q z) (stop (NotListed (J n)))

pub ruleset arms = (tt, le_refl, lit≤, arm)
