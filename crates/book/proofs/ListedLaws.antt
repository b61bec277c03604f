-- Which processes are listed, range by range, as the code asks.
use Rattle.paper.proofs.Kit.{ℕ, zero, suc, ◌+◌, ◌<◌, ◌≤◌, ◌≡◌, ◌≢◌, refl, sym, Bool, true, false, cond, not, ◌&&◌, arith, ℕ_discrete, dec_lt}
use Rattle.paper.specs.Limits.{many_processes}
use Rattle.paper.specs.Process.{listed, is_listed_in, is_listed}
use Rattle.paper.proofs.SoundStore.{and-true}
use Rattle.paper.proofs.ListedTable.{none-past}

same : Bool → Bool → Bool
same a b = cond a b (not b)

are_same : (a b : Bool) → same a b ≡ true → a ≡ b
unfolding same
are_same true b h = sym h
are_same false true h = h
are_same false false h = refl

-- from a on, the next k processes are all listed, or none is: one computed test
all_same : Bool → ℕ → ℕ → Bool
all_same v a zero = true
all_same v a (suc k) = same v (is_listed a) && all_same v (suc a) k

within : (v : Bool) (a k n : ℕ) → all_same v a k ≡ true → a ≤ n → n < a + k → v ≡ is_listed n
unfolding all_same
within v a zero n h l u = absurd (omega arith)
within v a (suc k) n h l u =
    let (p, q) = and-true (same v (is_listed a)) (all_same v (suc a) k) h in
    go (are_same v (is_listed a) p) (within v (suc a) k n q) (ℕ_discrete n a)
  where
    go : v ≡ is_listed a → (suc a ≤ n → n < suc a + k → v ≡ is_listed n) → Dec (n ≡ a) → v ≡ is_listed n
    go p q (yes e) = rw e p
    go p q (no e) = q (omega arith) (omega arith)

pub yes0 : (n : ℕ) → n < 7 → true ≡ is_listed n
unfolding all_same same is_listed is_listed_in listed
yes0 n u = within true 0 7 n refl (omega arith) (omega arith)

pub yes8 : (n : ℕ) → 8 ≤ n → n < 10 → true ≡ is_listed n
unfolding all_same same is_listed is_listed_in listed
yes8 n h u = within true 8 2 n refl (omega arith) (omega arith)

pub yes20 : (n : ℕ) → 20 ≤ n → n < 61 → true ≡ is_listed n
unfolding all_same same is_listed is_listed_in listed
yes20 n h u = within true 20 41 n refl (omega arith) (omega arith)

pub yes63 : (n : ℕ) → 63 ≤ n → n < 65 → true ≡ is_listed n
unfolding all_same same is_listed is_listed_in listed
yes63 n h u = within true 63 2 n refl (omega arith) (omega arith)

pub yes71 : (n : ℕ) → 71 ≤ n → n < 73 → true ≡ is_listed n
unfolding all_same same is_listed is_listed_in listed
yes71 n h u = within true 71 2 n refl (omega arith) (omega arith)

pub yes110 : (n : ℕ) → 110 ≤ n → n < 112 → true ≡ is_listed n
unfolding all_same same is_listed is_listed_in listed
yes110 n h u = within true 110 2 n refl (omega arith) (omega arith)

pub yes114 : (n : ℕ) → 114 ≤ n → n < 121 → true ≡ is_listed n
unfolding all_same same is_listed is_listed_in listed
yes114 n h u = within true 114 7 n refl (omega arith) (omega arith)

pub yes123 : (n : ℕ) → 123 ≤ n → n < 126 → true ≡ is_listed n
unfolding all_same same is_listed is_listed_in listed
yes123 n h u = within true 123 3 n refl (omega arith) (omega arith)

pub yes130 : (n : ℕ) → 130 ≤ n → n < 133 → true ≡ is_listed n
unfolding all_same same is_listed is_listed_in listed
yes130 n h u = within true 130 3 n refl (omega arith) (omega arith)

pub yes152 : (n : ℕ) → 152 ≤ n → n < 154 → true ≡ is_listed n
unfolding all_same same is_listed is_listed_in listed
yes152 n h u = within true 152 2 n refl (omega arith) (omega arith)

pub no7 : (n : ℕ) → 7 ≤ n → n < 8 → false ≡ is_listed n
unfolding all_same same is_listed is_listed_in listed
no7 n h u = within false 7 1 n refl (omega arith) (omega arith)

pub no10 : (n : ℕ) → 10 ≤ n → n < 20 → false ≡ is_listed n
unfolding all_same same is_listed is_listed_in listed
no10 n h u = within false 10 10 n refl (omega arith) (omega arith)

pub no61 : (n : ℕ) → 61 ≤ n → n < 63 → false ≡ is_listed n
unfolding all_same same is_listed is_listed_in listed
no61 n h u = within false 61 2 n refl (omega arith) (omega arith)

pub no112 : (n : ℕ) → 112 ≤ n → n < 114 → false ≡ is_listed n
unfolding all_same same is_listed is_listed_in listed
no112 n h u = within false 112 2 n refl (omega arith) (omega arith)

pub no121 : (n : ℕ) → 121 ≤ n → n < 123 → false ≡ is_listed n
unfolding all_same same is_listed is_listed_in listed
no121 n h u = within false 121 2 n refl (omega arith) (omega arith)

pub no126 : (n : ℕ) → 126 ≤ n → n < 130 → false ≡ is_listed n
unfolding all_same same is_listed is_listed_in listed
no126 n h u = within false 126 4 n refl (omega arith) (omega arith)

-- a number that is not m is below it or above it
apart : {P : Type 0} (m n : ℕ) → n ≢ m → (n < m → P) → (m < n → P) → P
apart {P = P} m n h f g = go (dec_lt n m)
  where
    go : Dec (n < m) → P
    go (yes l) = f l
    go (no l) = g (omega arith)

pub no65 : (n : ℕ) → 65 ≤ n → n < 71 → n ≢ 68 → false ≡ is_listed n
unfolding all_same same is_listed is_listed_in listed
no65 n h u d =
    apart 68 n d (λ l. within false 65 3 n refl (omega arith) (omega arith)) (λ l. within false 69 2 n refl (omega arith) (omega arith))

pub no73 : (n : ℕ) → 73 ≤ n → n < 110 → n ≢ 74 → n ≢ 90 → false ≡ is_listed n
unfolding all_same same is_listed is_listed_in listed
no73 n h u d e =
    apart 74 n d (λ l. within false 73 1 n refl (omega arith) (omega arith))
    (λ m. apart 90 n e (λ l. within false 75 15 n refl (omega arith) (omega arith)) (λ l. within false 91 19 n refl (omega arith) (omega arith)))

pub no133 : (n : ℕ) → 133 ≤ n → n < 152 → n ≢ 134 → n ≢ 136 → n ≢ 138 → false ≡ is_listed n
unfolding all_same same is_listed is_listed_in listed
no133 n h u d e f =
    apart 134 n d (λ l. within false 133 1 n refl (omega arith) (omega arith))
    (λ k. apart 136 n e (λ l. within false 135 1 n refl (omega arith) (omega arith))
    (λ m. apart 138 n f (λ l. within false 137 1 n refl (omega arith) (omega arith)) (λ l. within false 139 13 n refl (omega arith) (omega arith))))

pub no154 : (n : ℕ) → 154 ≤ n → false ≡ is_listed n
unfolding all_same same is_listed is_listed_in listed
no154 n h = go (dec_lt n many_processes)
  where
    go : Dec (n < many_processes) → false ≡ is_listed n
    go (yes l) = within false 154 46 n refl (omega arith) (omega arith)
    go (no l) = sym (none-past n (omega arith))

pub ruleset ranges = (
  yes0,
  yes8,
  yes20,
  yes63,
  yes71,
  yes110,
  yes114,
  yes123,
  yes130,
  yes152,
  no7,
  no10,
  no61,
  no65,
  no73,
  no112,
  no121,
  no126,
  no133,
  no154,
)
