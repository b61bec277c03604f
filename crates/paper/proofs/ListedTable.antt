-- The list of processes as a table, ten numbers to a row, 1 for a listed one: one test of all two hundred. No number past them is listed.
use Rattle.paper.proofs.Kit.{◌≡◌, refl, sym, Bool, true, false, cond, ◌&&◌, not, List, [], ◌∷◌, ℕ, zero, suc, ◌<◌, ◌≤◌, ◌/◌, ◌%◌, arith, ℕ_discrete, eqb, ltb}
use Rattle.paper.proofs.Kit.{and-false, get_or, lt-leb, ltb-true}
use Rattle.paper.specs.Limits.{many_processes}
use Rattle.paper.specs.Process.{Entry, listed, is_listed_in, is_listed}
use Rattle.paper.proofs.SoundStore.{and-true}

abbrev pub in_table : List (List ℕ) → ℕ → Bool
in_table rows n = eqb (get_or (get_or rows (n / 10) []) (n % 10) 0) 1

alike : Bool → Bool → Bool
alike a b = cond a b (not b)

are-alike : (a b : Bool) → alike a b ≡ true → a ≡ b
unfolding alike
are-alike true true h = refl
are-alike true false h = sym h
are-alike false true h = h
are-alike false false h = refl

-- table and list have the same numbers below k
unfoldable pub agrees : List (List ℕ) → ℕ → Bool
unfolding alike
agrees rows zero = true
agrees rows (suc k) = alike (in_table rows k) (is_listed k) && agrees rows k

pub in-table : (rows : List (List ℕ)) (k n : ℕ) → agrees rows k ≡ true → n < k → in_table rows n ≡ is_listed n
unfolding agrees alike
in-table rows zero n h l = absurd (omega arith)
in-table rows (suc k) n h l =
    let (a, b) = and-true (alike (in_table rows k) (is_listed k)) (agrees rows k) h in
    go (are-alike (in_table rows k) (is_listed k) a) (in-table rows k n b) (ℕ_discrete n k)
  where
    go : in_table rows k ≡ is_listed k → (n < k → in_table rows n ≡ is_listed n) → Dec (n ≡ k) → in_table rows n ≡ is_listed n
    go a b (yes e) = rw e a
    go a b (no e) = b (omega arith)

-- the list ends below k
unfoldable ends_below : List Entry → ℕ → Bool
ends_below [] k = true
ends_below (e ∷ es) k = ltb e.up_to k && ends_below es k

past : (es : List Entry) (k n : ℕ) → ends_below es k ≡ true → k ≤ n → is_listed_in es n ≡ false
unfolding ends_below is_listed_in
past [] k n h l = refl
past (e ∷ es) k n h l =
    let (a, b) = and-true (ltb e.up_to k) (ends_below es k) h in
    rw (lt-leb n e.up_to (omega (arith, ltb-true e.up_to k a)), and-false, past es k n b l)

pub none-past : (n : ℕ) → many_processes ≤ n → is_listed n ≡ false
unfolding is_listed ends_below listed
none-past n l = past listed many_processes n refl l
