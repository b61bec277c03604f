-- The table that the loader makes, one region more at a time: 23 letters are enough.
use Rattle.paper.proofs.Kit.{clash, ◌||◌, ℕ, zero, suc, ◌+◌, ◌<◌, ◌≤◌, Bool, true, false, cond, ◌&&◌, List, [], ◌∷◌, ◌++◌, ◌≡◌, refl, ap, sym, ◌∙◌, arith}
use Rattle.paper.proofs.Kit.{ℕ_discrete, dec_lt, eq-eqb, leb-true, eqb, leb, length, length-append}
use Rattle.paper.specs.Limits.{largest_n, first_deck}
use Rattle.paper.specs.Region.{Region, end_of_regions, is_letter, layout, letter_taken}
use Rattle.paper.proofs.RegionLaws.{end_more}
use Rattle.regions.specs.declared.Regions.{Regions}
use Rattle.regions.specs.Table.{regions_of, no_regions, with_region}
use Rattle.regions.proofs.TableLaws.{one_more, none-held, full}
use Rattle.deck.specs.Load.{table_from, table_of, unused, Made}

swap : (a b c : Bool) → (a || (b || c)) ≡ (b || (a || c))
swap true true c = refl
swap true false c = refl
swap false true c = refl
swap false false c = refl

taken_more : (rs : List Region) (r : Region) (b : ℕ) → letter_taken (rs ++ (r ∷ [])) b ≡ (eqb r.letter b || letter_taken rs b)
unfolding letter_taken
taken_more [] r b = refl
taken_more (x ∷ xs) r b =
    ap (λ (t : Bool). eqb x.letter b || t) (taken_more xs r b) ∙ swap (eqb x.letter b) (eqb r.letter b) (letter_taken xs b)

-- a letter more leaves one less
module _ (rs : List Region) (r : Region) where
  none-new : (b : ℕ) → cond (letter_taken (layout (rs ++ (r ∷ []))) b) 0 1 ≤ cond (letter_taken (layout rs) b) 0 1
  none-new b = rw (taken_more (layout rs) r b) (go (eqb r.letter b) (letter_taken (layout rs) b))
    where
      go : (s t : Bool) → cond (s || t) 0 1 ≤ cond t 0 1
      go true true = omega arith
      go true false = omega arith
      go false t = omega arith

  no_more : (b k : ℕ) → unused (rs ++ (r ∷ [])) b k ≤ unused rs b k
  unfolding unused
  no_more b zero = omega arith
  no_more b (suc k) = omega (arith, none-new b, no_more (b + 1) k)

  one_less : (b k : ℕ) → letter_taken (layout rs) r.letter ≡ false → b ≤ r.letter → r.letter < b + k → unused (rs ++ (r ∷ [])) b k + 1 ≤ unused rs b k
  unfolding unused
  one_less b zero t g h = absurd (omega arith)
  one_less b (suc k) t g h = go (ℕ_discrete b r.letter) (λ (p : b + 1 ≤ r.letter). one_less (b + 1) k t p (omega arith))
    where
      go : Dec (b ≡ r.letter) → (b + 1 ≤ r.letter → unused (rs ++ (r ∷ [])) (b + 1) k + 1 ≤ unused rs (b + 1) k)
          → cond (letter_taken (layout (rs ++ (r ∷ []))) b) 0 1 + unused (rs ++ (r ∷ [])) (b + 1) k + 1
          ≤ cond (letter_taken (layout rs) b) 0 1 + unused rs (b + 1) k
      go (yes e) f = rw (taken_more (layout rs) r b, e, t, eq-eqb r.letter r.letter refl) (omega (arith, no_more (r.letter + 1) k))
      go (no n) f = omega (arith, none-new b, f (omega arith))

table_more : (t : Regions) (rs : List Region) (r : Region) → table_from t (rs ++ (r ∷ [])) ≡ with_region (table_from t rs) r.letter r.count
unfolding table_from
table_more t [] r = refl
table_more t (x ∷ xs) r = table_more (with_region t x.letter x.count) xs r

pub made_none : Made no_regions
unfolding unused letter_taken table_from end_of_regions
made_none =
    record {
      laid = record { ends = ends };
      room = room;
      made = rw none-held;
    }
  where
    ends : end_of_regions (regions_of no_regions) first_deck ≤ largest_n
    ends = rw none-held (omega arith)

    room : length (regions_of no_regions) + unused (regions_of no_regions) 65 26 ≤ 23
    room = rw none-held (omega arith)

-- one region more
module _ (r : Regions) (b n : ℕ) (ls : length r.letters ≡ 23) (cs : length r.counts ≡ 23) (h : Made r) (letter : is_letter b ≡ true)
    (new : letter_taken (layout (regions_of r)) b ≡ false) where
  abbrev added : Region
  added = record { letter = b; count = n }

  fewer : unused (regions_of r ++ (added ∷ [])) 65 26 + 1 ≤ unused (regions_of r) 65 26
  fewer =
      let t = both (leb 65 b) (leb b 90) letter in
      one_less (regions_of r) added 65 26 new (leb-true 65 b t.0) (omega (arith, leb-true b 90 t.1))
    where
      both : (s t : Bool) → (s && t) ≡ true → (s ≡ true) × (t ≡ true)
      both true t e = (refl, e)
      both false t e = clash cc

  not_full : r.n < 23
  not_full = go (dec_lt r.n 23)
    where
      go : Dec (r.n < 23) → r.n < 23
      go (yes p) = p
      go (no p) = absurd (omega (arith, full r (omega arith), fewer, h.room))

  pub listed : regions_of (with_region r b n) ≡ regions_of r ++ (added ∷ [])
  listed = one_more r b n not_full ls cs

  pub made_more : end_of_regions (regions_of r) first_deck + n ≤ largest_n → Made (with_region r b n)
  made_more fits =
      record {
        laid = record { ends = rw (listed, end_more (regions_of r) added first_deck) fits };
        room = rw (listed, length-append (regions_of r) (added ∷ [])) (omega (arith, fewer, h.room));
        made = ap (λ (t : Regions). with_region t b n) h.made ∙ sym (ap table_of listed ∙ table_more no_regions (regions_of r) added);
      }
