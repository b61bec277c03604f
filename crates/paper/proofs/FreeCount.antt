-- The free cells by the definitions' count and list, and as a chain of distinct cells that has each of them: the two say the same.
use Rattle.paper.proofs.Kit.{◌≡◌, refl, sym, ap, ◌∙◌, subst, Bool, true, false, ◌&&◌, not, List, [], ◌∷◌, ◌≢◌, ℕ, zero, suc, ◌<◌, ◌≤◌, arith}
use Rattle.paper.proofs.Kit.{ℕ_discrete, dec_lt, eqb, length, get_or, set, length-set, List·getD-eq-default, get_or-set_other, lt-length-set, eqb-false}
use Rattle.paper.proofs.Kit.{eqb-true, ne_eqb, not-true}
use Rattle.paper.specs.Cell.{zeros, Cell, free, word, term, process, is_free}
use Rattle.paper.specs.Walk.{member}
use Rattle.paper.specs.Sound.{free_count, free_list}
use Rattle.paper.proofs.SoundStore.{Chain, ends, on, never, or-false, and-true, set_at}
use Rattle.paper.proofs.ActLaws.{All}
use Rattle.paper.proofs.WalkLaws.{Distinct}

pub false≢true : {A : Type 0} → ◌≡◌ {A = Bool} false true → A
false≢true e = never false e refl

-- counting: a free cell struck out is one less
one_less : (b : Bool) (m k : ℕ) → m ≡ suc k → elim b as (λ _. ℕ) [ true ↦ suc m | false ↦ m ] ≡ suc (elim b as (λ _. ℕ) [ true ↦ suc k | false ↦ k ])
one_less true m k e = ap suc e
one_less false m k e = e

strike : (cs : List Cell) (c : ℕ) → c < length cs → is_free (get_or cs c (free 0)) ≡ true → free_count cs ≡ suc (free_count (set cs c (word zeros)))
unfolding free_count
strike [] c b f = absurd (omega arith)
strike (x ∷ xs) zero b f = rw (f, free_count)
strike (x ∷ xs) (suc c) b f = one_less (is_free x) _ _ (strike xs c (omega arith) f)

none_free : (cs : List Cell) → ((c : ℕ) → c < length cs → is_free (get_or cs c (free 0)) ≡ true → ⊥) → free_count cs ≡ 0
unfolding free_count
none_free [] h = refl
none_free (x ∷ xs) h = go (is_free x) (h 0 (omega arith)) (none_free xs (λ c b f. h (suc c) (omega arith) f))
  where
    go : (b : Bool) → (b ≡ true → ⊥) → free_count xs ≡ 0 → ◌≡◌ {A = ℕ} (elim b as (λ _. ℕ) [ true ↦ suc (free_count xs) | false ↦ free_count xs ]) 0
    go true h e = absurd (h refl)
    go false h e = e

-- free cells of cs
pub record FreeIn (cs : List Cell) (c : ℕ) : Type 0 where
  pub below : c < length cs
  pub is_free : is_free (get_or cs c (free 0)) ≡ true

struck : List Cell → ℕ → List Cell
struck cs c = set cs c (word zeros)

still-free : (cs : List Cell) (c : ℕ) (fs : List ℕ) → member c fs ≡ false → All (FreeIn cs) fs → All (FreeIn (struck cs c)) fs
unfolding member struck
still-free cs c [] m h = tt
still-free cs c (x ∷ xs) m h =
    let (a, b) = or-false (eqb c x) (member c xs) m in (
      record {
        below = lt-length-set cs c _ h.0.below;
        is_free = ap Rattle.paper.specs.Cell.is_free
            (get_or-set_other cs c x _ (free 0) (λ e. eqb-false c x a (sym e))) ∙ h.0.is_free;
      },
      still-free cs c xs b h.1,
    )

-- as many cells as fs has are free at least; and no more, if every free cell is in fs
pub at_least : (fs : List ℕ) (cs : List Cell) → Distinct fs → All (FreeIn cs) fs → length fs ≤ free_count cs
unfolding struck
at_least [] cs d h = omega arith
at_least (c ∷ fs) cs d h = let i = at_least fs (struck cs c) d.1 (still-free cs c fs d.0 h.1) in omega
    (arith, strike cs c h.0.below h.0.is_free)

pub at_most : (fs : List ℕ) (cs : List Cell) → Distinct fs → All (FreeIn cs) fs →
    ((c : ℕ) → c < length cs → is_free (get_or cs c (free 0)) ≡ true → member c fs ≡ true) → free_count cs ≡ length fs
unfolding member struck
at_most [] cs d h m = none_free cs (λ c b f. false≢true (m c b f))
at_most (c ∷ fs) cs d h m =
    strike cs c h.0.below h.0.is_free ∙ ap suc (at_most fs (struck cs c) d.1 (still-free cs c fs d.0 h.1)
    (λ k b. set_at (λ k y. is_free y ≡ true → member k fs ≡ true) cs c (word zeros) h.0.below (λ e. false≢true e) k
    (λ a f. rw (ne_eqb k c a) at (m k (rw length-set at b) f))))

-- the list from H2: what the test finds at one cell
record Link (k : ℕ) (cs : List Cell) (c : ℕ) : Type 0 where
  l : ℕ
  is : get_or cs c (free 0) ≡ free l
  pub below : c < length cs
  nonzero : c ≢ 0
  rest : free_list k cs l ≡ true

get_d_any : (cs : List Cell) (c : ℕ) (d e : Cell) → c < length cs → get_or cs c d ≡ get_or cs c e
get_d_any [] c d e b = absurd (omega arith)
get_d_any (x ∷ xs) zero d e b = refl
get_d_any (x ∷ xs) (suc c) d e b = get_d_any xs c d e (omega arith)

free-below : (cs : List Cell) (c l : ℕ) → get_or cs c (word zeros) ≡ free l → c < length cs
free-below cs c l e = go (dec_lt c (length cs))
  where
    go : Dec (c < length cs) → c < length cs
    go (yes p) = p
    go (no p) = let b : length cs ≤ c = omega arith in never _ (ap is_free (sym (sym e ∙ List·getD-eq-default cs (word zeros) b))) refl

link-of : (k : ℕ) (cs : List Cell) (c : ℕ) → free_list (suc k) cs c ≡ true → Link k cs c
unfolding free_list
link-of k cs c h = go (get_or cs c (word zeros)) refl h
  where
    go : (x : Cell) → get_or cs c (word zeros) ≡ x → ◌≡◌ {A = Bool}
        (elim x as (λ _. Bool) [ free l ↦ not (eqb c 0) && free_list k cs l | word w ↦ false | term t ↦ false | process ↦ false ]) true
        → Link k cs c
    go (free l) e h = let (a, r) = and-true (not (eqb c 0)) (free_list k cs l) h in
        record {
          l = l;
          is = get_d_any cs c (free 0) (word zeros) (free-below cs c l e) ∙ e;
          below = free-below cs c l e;
          nonzero = eqb-false c 0
              (not-true (eqb c 0) a);
          rest = r;
        }
    go (word w) e h = false≢true h
    go (term t) e h = false≢true h
    go process e h = false≢true h

-- it has one length only
one-length : (j k : ℕ) (cs : List Cell) (c : ℕ) → free_list j cs c ≡ true → free_list k cs c ≡ true → j ≡ k
unfolding free_list
one-length zero zero cs c p q = refl
one-length zero (suc k) cs c p q = absurd ((link-of k cs c q).nonzero (eqb-true c 0 p))
one-length (suc j) zero cs c p q = absurd ((link-of j cs c p).nonzero (eqb-true c 0 q))
one-length (suc j) (suc k) cs c p q =
    let a = link-of j cs c p in
    let b = link-of k cs c q in
    let e : a.l ≡ b.l = cc (sym a.is ∙ b.is) in
    ap suc (one-length j k cs a.l a.rest (subst (λ x. free_list k cs x ≡ true) (sym e) b.rest))

pub record Built (k : ℕ) (cs : List Cell) (a : ℕ) : Type 0 where
  pub fs : List ℕ
  pub chain : Chain cs a fs
  pub len : length fs ≡ k
  pub back : (c : ℕ) → member c fs ≡ true → (j : ℕ) × (j ≤ k) × (free_list j cs c ≡ true)

module _ (k : ℕ) (cs : List Cell) (a : ℕ) (h : free_list (suc k) cs a ≡ true) (b : Built k cs (link-of k cs a h).l) where
  fresh : (t : Bool) → member a b.fs ≡ t → t ≡ false
  fresh true e = let r = b.back a e in let q : r.0 ≡ suc k = one-length r.0 (suc k) cs a r.2 h in absurd (omega (arith, r.1))
  fresh false e = refl

  back_more : (c : ℕ) → member c (a ∷ b.fs) ≡ true → Dec (c ≡ a) → (j : ℕ) × (j ≤ suc k) × (free_list j cs c ≡ true)
  unfolding member
  back_more c m (yes e) = (suc k, omega arith, rw e h)
  back_more c m (no e) = let r = b.back c (rw (ne_eqb c a e) at m) in (r.0, omega (arith, r.1), r.2)

  built-more : Built (suc k) cs a
  built-more = let l = link-of k cs a h in record {
    fs = a ∷ b.fs;
    chain = on l.is l.below (fresh (member a b.fs) refl) b.chain;
    len = ap suc b.len;
    back = λ c m. back_more c m (ℕ_discrete c a);
  }

pub build : (k : ℕ) (cs : List Cell) (a : ℕ) → free_list k cs a ≡ true → Built k cs a
unfolding free_list member
build zero cs a h = record { fs = []; chain = rw (eqb-true a 0 h) ends; len = refl; back = λ c m. false≢true m }
build (suc k) cs a h = built-more k cs a h (build k cs (link-of k cs a h).l (link-of k cs a h).rest)

-- the cells of a chain
pub chain-free : {cs : List Cell} {a : ℕ} {fs : List ℕ} → Chain cs a fs → Distinct fs × All (FreeIn cs) fs
chain-free ends = (tt, tt)
chain-free (on e b f r) = let t = chain-free r in ((f, t.0), (record { below = b; is_free = ap is_free e }, t.1))

in_all : (P : ℕ → Type 0) (fs : List ℕ) → All P fs → (c : ℕ) → member c fs ≡ true → P c
unfolding member
in_all P [] h c m = false≢true m
in_all P (x ∷ xs) h c m = go (ℕ_discrete c x) (in_all P xs h.1 c)
  where
    go : Dec (c ≡ x) → (member c xs ≡ true → P c) → P c
    go (yes e) k = subst P (sym e) h.0
    go (no e) k = k (rw (ne_eqb c x e) at m)

pub chain-cells : {cs : List Cell} {a : ℕ} {fs : List ℕ} → Chain cs a fs → Distinct fs × ((c : ℕ) → member c fs ≡ true → is_free (get_or cs c (free 0)) ≡ true)
chain-cells {cs} {fs = fs} k = let t = chain-free k in (t.0, λ c m. (in_all (FreeIn cs) fs t.1 c m).is_free)

pub all-met : (cs : List Cell) (a : ℕ) (b : Built (free_count cs) cs a) (c : ℕ) → c < length cs → is_free (get_or cs c (free 0)) ≡ true → member c b.fs ≡ true
all-met cs a b c l f = go (member c b.fs) refl
  where
    go : (t : Bool) → member c b.fs ≡ t → t ≡ true
    go true e = refl
    go false e = let t = chain-free b.chain in let m : suc (length b.fs) ≤ free_count cs = at_least (c ∷ b.fs) cs (e, t.0)
        (record { below = l; is_free = f }, t.1) in absurd (omega (arith, b.len))

pub chain-list : {cs : List Cell} {a : ℕ} {fs : List ℕ} → is_free (get_or cs 0 (free 0)) ≡ false → Chain cs a fs → free_list (length fs) cs a ≡ true
unfolding free_list
chain-list z ends = refl
chain-list {cs} z (on {c = c} {l = l} {ns = ns} e b f r) =
    let p : get_or cs c (word zeros) ≡ free l = get_d_any cs c (word zeros) (free 0) b ∙ e in
    let q : c ≢ 0 = λ y. never _ (ap is_free (ap (λ i. get_or cs i (free 0)) (sym y) ∙ e)) z in
    rw (p, ne_eqb c 0 q, free_list) (chain-list z r)
