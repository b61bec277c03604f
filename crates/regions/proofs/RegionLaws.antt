-- A definition that goes along the regions, at the rest of a table from number i on: what one turn of a loop does, and its end.
use Rattle.paper.proofs.Kit.{◌||◌, ℕ, ◌+◌, ◌<◌, ◌≤◌, Bool, true, false, ◌&&◌, List, ◌≡◌, refl, sym, eq-eqb, ne_eqb, eqb-true, eqb-false}
use Rattle.paper.proofs.Kit.{eqb, leb, length, get_or, drop, take, zero, suc, ◌-◌, ◌∷◌, ◌⊎◌, inl, inr, arith, add-one, drop-cons, drop_of_length-le, get_or-take, leb-true, leb-false, length-take-le}
use Rattle.std.specs.List.{list_any}
use Rattle.paper.specs.Limits.{largest_number}
use Rattle.paper.specs.Region.{Region, layout, end_of_regions, letter_taken, new_letter, regions_sound}
use Rattle.regions.specs.declared.Regions.{Regions}
use Rattle.regions.specs.Table.{regions_of}
use Rattle.regions.proofs.TableLaws.{at_most, rest_more, rest-none}

abbrev pub rest : Regions → ℕ → List Region
rest r i = drop i (regions_of r)

-- H, W and J are the first regions of the layout: a letter taken there is one of these, or taken in rs
eqb-sym : (a b : ℕ) → eqb a b ≡ eqb b a
eqb-sym a b = go (eqb b a) refl
  where
    go : (t : Bool) → eqb b a ≡ t → eqb a b ≡ t
    go true e = eq-eqb a b (sym (eqb-true b a e))
    go false e = ne_eqb a b (λ q. eqb-false b a e (sym q))

regroup : (x y z t : Bool) → (x || (y || (z || t))) ≡ (x || y || z || t)
regroup true y z t = refl
regroup false true z t = refl
regroup false false z t = refl

in-layout : (b : ℕ) (rs : List Region) → letter_taken (layout rs) b ≡ (eqb b 0x48 || eqb b 0x57 || eqb b 0x4A || letter_taken rs b)
unfolding letter_taken
in-layout b rs =
    rw (eqb-sym b 0x48, eqb-sym b 0x57, eqb-sym b 0x4A) (regroup (eqb 0x48 b) (eqb 0x57 b) (eqb 0x4A b) (letter_taken rs b))

pub first-taken : (b : ℕ) (rs : List Region) → (b ≡ 0x48) ⊎ ((b ≡ 0x4A) ⊎ (b ≡ 0x57)) → true ≡ letter_taken (layout rs) b
unfolding letter_taken
first-taken b rs (inl e) = rw e
first-taken b rs (inr (inl e)) = rw e
first-taken b rs (inr (inr e)) = rw e

pub deck-taken : (b : ℕ) (rs : List Region) → (b ≡ 0x48 → ⊥) → (b ≡ 0x4A → ⊥) → (b ≡ 0x57 → ⊥) → letter_taken rs b ≡ letter_taken (layout rs) b
deck-taken b rs h j w = rw (in-layout b rs, ne_eqb b 0x48 h, ne_eqb b 0x4A j, ne_eqb b 0x57 w)

module _ (r : Regions) (i : ℕ) (here : i < length (regions_of r)) where
  pub end_more : (at k : ℕ) → k ≡ get_or r.counts i 0 → end_of_regions (rest r (i + 1)) (at + k) ≡ end_of_regions (rest r i) at
  unfolding end_of_regions
  end_more at k e = rw (rest_more r i here, e)

  pub sound-turn : (n at k : ℕ) (t f : Bool) → t ≡ new_letter (get_or r.letters i 0) (rest r (i + 1)) → k ≡ get_or r.counts i 0
      → (t && leb 1 k && leb k largest_number && leb (at + k) n) ≡ f → (f && regions_sound n (at + k) (rest r (i + 1))) ≡ regions_sound n at (rest r i)
  unfolding regions_sound
  sound-turn n at k t f e g h = rw (rest_more r i here, ← h, e, g)

module _ (r : Regions) (i : ℕ) (past : length (regions_of r) ≤ i) where
  pub end_none : (at : ℕ) → at ≡ end_of_regions (rest r i) at
  unfolding end_of_regions
  end_none at = rw (rest-none r i past)

  pub sound_none : (n at : ℕ) → true ≡ regions_sound n at (rest r i)
  unfolding regions_sound
  sound_none n at = rw (rest-none r i past)

-- the letters from number i on, as the code has them in a row
module _ (r : Regions) (b : ℕ) (sized : length r.letters ≡ 23) where
  abbrev m : ℕ
  m = length (regions_of r)

  abbrev listed : ℕ → Bool
  listed i = list_any (λ (x : ℕ). eqb x b) (drop i (take m r.letters))

  many : length (take m r.letters) ≡ m
  many = length-take-le m r.letters (omega (arith, at_most r, sized))

  none-listed : (i : ℕ) → m ≤ i → listed i ≡ letter_taken (rest r i) b
  unfolding letter_taken
  none-listed i h = rw (rest-none r i h, drop_of_length-le (take m r.letters) {i = i} (omega (arith, many)))

  listed-on : (k i : ℕ) → i + k ≡ m → listed i ≡ letter_taken (rest r i) b
  unfolding letter_taken
  listed-on zero i e = none-listed i (omega arith)
  listed-on (suc k) i e =
      let c : drop i (take m r.letters) ≡ get_or (take m r.letters) i 0 ∷ drop (suc i) (take m r.letters) = drop-cons (take m r.letters) i 0 (omega (arith, many)) in
      rw (rest_more r i (omega arith), c, get_or-take m r.letters i 0 (omega arith), ← (listed-on k (i + 1) (omega arith)), add-one i)

  pub taken-listed : (i : ℕ) → listed i ≡ letter_taken (rest r i) b
  taken-listed i = by (leb m i) refl
    where
      by : (t : Bool) → leb m i ≡ t → listed i ≡ letter_taken (rest r i) b
      by true e = none-listed i (leb-true m i e)
      by false e = listed-on (m - i) i (omega (arith, leb-false m i e))
