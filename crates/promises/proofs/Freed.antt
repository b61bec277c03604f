-- An erasure, of the numbers alone; and that it is one of the store.
use Rattle.paper.proofs.Kit.{◌||◌, ℕ, ◌+◌, ◌<◌, ◌≡◌, refl, sym, ap, subst, ◌∙◌, Bool, true, false, List, [], ◌∷◌, ◌≢◌, arith, ℕ_discrete, dec_lt, eqb-true}
use Rattle.paper.proofs.Kit.{eqb, length, get_or, List·getD-eq-default}
use Rattle.paper.specs.Cell.{is_free, H, size_fits}
use Rattle.paper.specs.Walk.{member}
use Rattle.paper.proofs.SoundStore.{never}
use Rattle.paper.proofs.SoundTest.{sound-from}
use Rattle.paper.proofs.ActLaws.{All, all_map}
use Rattle.paper.proofs.WalkLaws.{Distinct}
use Rattle.paper.proofs.FreeList.{own-word}
use Rattle.paper.proofs.Demand3.{in_h0, Erased}
use Rattle.cells.specs.Pack.{pack_of, AllFormed}
use Rattle.cells.specs.Bridge.{cell_in}
use Rattle.cells.proofs.Store.{cell_at, cell_out, formed-at}
use Rattle.regions.specs.declared.Regions.{Regions}
use Rattle.sound.specs.Store.{state_with, store_sound}
use Rattle.sound.proofs.SoundLaws.{passed-formed, size-range}
use Rattle.plain.proofs.GivesBack.{runnable}
use Rattle.promises.specs.Free.{free_at, free_numbers}
use Rattle.promises.proofs.FreeLaws.{free-count, free-at, free-out}

-- From the numbers s to s₁ the cells gone have become free, each once, and no other; they were in use; every other number is as it was, but
-- for H0, which has that of the cell below, and H2
pub record Freed (s s₁ gone : List ℕ) (below : ℕ) : Type 0 where
  pub once : Distinct gone
  pub used : All (λ c. (c < length s) × (free_at s c ≡ false)) gone
  pub free : (c : ℕ) → free_at s₁ c ≡ (free_at s c || member c gone)
  pub count : free_numbers s₁ ≡ length gone + free_numbers s
  pub others : (c : ℕ) → c ≢ H 0 → c ≢ H 2 → member c gone ≡ false → get_or s₁ c 0 ≡ get_or s c 0
  pub popped : get_or s₁ (H 0) 0 ≡ get_or s below 0

in_all : (P : ℕ → Type 0) (cs : List ℕ) → All P cs → (c : ℕ) → member c cs ≡ true → P c
unfolding member
in_all P [] h c e = never false e refl
in_all P (x ∷ xs) h c e = go (eqb c x) refl e (λ q. in_all P xs h.1 c q)
  where
    go : (b : Bool) → eqb c x ≡ b → (b || member c xs) ≡ true → (member c xs ≡ true → P c) → P c
    go true p q k = subst P (sym (eqb-true c x p)) h.0
    go false p q k = k q

or-true : (b : Bool) → true ≡ (b || true)
or-true true = refl
or-true false = refl

or-false : (b : Bool) → b ≡ (b || false)
or-false true = refl
or-false false = refl

-- the number of a cell
number_is : (s : List ℕ) → AllFormed s → (c : ℕ) → c < length s → get_or s c 0 ≡ pack_of (cell_in s c)
number_is s f c h = sym (formed-at s c h f) ∙ ap pack_of (sym (cell_at s c h))

module _ (r : Regions) (s : List ℕ) (size : size_fits (length s) ≡ true) (passes : store_sound r s ≡ true) (s₁ : List ℕ) (passes₁ : store_sound r s₁ ≡ true)
    (many : length s₁ ≡ length s) (more : List ℕ) (e : Erased (state_with r s [] 0) (state_with r s₁ [] 0) ((in_h0 (state_with r s [] 0)).link ∷ more))
  where
    abbrev below : ℕ
    below = (in_h0 (state_with r s [] 0)).link

    abbrev gone : List ℕ
    gone = below ∷ more

    used : (c : ℕ) → is_free (cell_in s c) ≡ false → (c < length s) × (free_at s c ≡ false)
    used c k = go (dec_lt c (length s))
      where
        go : Dec (c < length s) → (c < length s) × (free_at s c ≡ false)
        go (yes h) = (h, free-at s c h ∙ k)
        go (no h) = never true refl (sym (ap is_free (cell_out s c (omega arith))) ∙ k)

    all-used : All (λ c. (c < length s) × (free_at s c ≡ false)) gone
    unfolding cell_in
    all-used = all_map _ _ gone used e.before

    -- a cell of H is no free one, before and after
    owned : (c : ℕ) → c < 21 → c ≢ 4 → is_free (cell_in s c) ≡ false
    unfolding cell_in
    owned c h n = let t = runnable r s size passes in ap is_free (own-word (sound-from (state_with r s [] 0) t.size t.test).is_sound c h n)

    same_number : (c d : ℕ) → c < length s → d < length s → cell_in s₁ c ≡ cell_in s d → get_or s₁ c 0 ≡ get_or s d 0
    same_number c d h k p =
        number_is s₁ (passed-formed r s₁ passes₁) c (omega (arith, h, many)) ∙ ap pack_of p ∙ sym (number_is s (passed-formed r s passes) d k)

    -- what is not gone is free just if it was
    stays : (c : ℕ) → member c gone ≡ false → is_free (cell_in s₁ c) ≡ is_free (cell_in s c)
    unfolding cell_in
    stays c m = go (ℕ_discrete c 1) (ℕ_discrete c 3)
      where
        go : Dec (c ≡ 1) → Dec (c ≡ 3) → is_free (cell_in s₁ c) ≡ is_free (cell_in s c)
        go (yes p) q = ap (λ k. is_free (cell_in s₁ k)) p ∙ ap is_free e.popped ∙ e.before.0 ∙ sym (ap (λ k. is_free (cell_in s k)) p ∙ owned 1 (omega arith) (omega arith))
        go (no p) (yes q) = ap (λ k. is_free (cell_in s₁ k)) q ∙ ap is_free e.in_h2 ∙ sym (ap (λ k. is_free (cell_in s k)) q ∙ owned 3 (omega arith) (omega arith))
        go (no p) (no q) = ap is_free (e.others c p q m)

    free-after : (c : ℕ) → free_at s₁ c ≡ (free_at s c || member c gone)
    unfolding cell_in
    free-after c = by_member (member c gone) refl
      where
        by_member : (b : Bool) → member c gone ≡ b → free_at s₁ c ≡ (free_at s c || b)
        by_member true m =
            let h = (in_all _ gone all-used c m).0 in
            free-at s₁ c (omega (arith, h, many)) ∙ in_all _ gone e.after c m ∙ or-true (free_at s c)
        by_member false m = go (dec_lt c (length s)) ∙ or-false (free_at s c)
          where
            go : Dec (c < length s) → free_at s₁ c ≡ free_at s c
            go (yes h) = free-at s₁ c (omega (arith, h, many)) ∙ stays c m ∙ sym (free-at s c h)
            go (no h) = free-out s₁ c (omega (arith, many)) ∙ sym (free-out s c (omega arith))

    others-after : (c : ℕ) → c ≢ H 0 → c ≢ H 2 → member c gone ≡ false → get_or s₁ c 0 ≡ get_or s c 0
    unfolding cell_in
    others-after c p q m = go (dec_lt c (length s))
      where
        go : Dec (c < length s) → get_or s₁ c 0 ≡ get_or s c 0
        go (yes h) = same_number c c h h (e.others c p q m)
        go (no h) = List·getD-eq-default s₁ 0 (omega (arith, many)) ∙ sym (List·getD-eq-default s 0 (omega arith))

    pub freed-so : Freed s s₁ gone below
    unfolding cell_in
    freed-so = record {
      once = e.once;
      used = all-used;
      free = free-after;
      count = free-count s₁ ∙ e.count ∙ ap (λ n. length gone + n) (sym (free-count s));
      others = others-after;
      popped = same_number 1 below (omega (arith, (size-range (length s) size).0)) all-used.0.0 e.popped;
    }
