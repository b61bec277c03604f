-- The whole test from its parts: the table and cell 0, the one pass over the cells, and the free list.
use Rattle.paper.proofs.Kit.{clash, ℕ, ◌≤◌, Bool, true, false, cond, ◌&&◌, and_assoc, and-false, List, [], ◌∷◌, ◌≡◌, refl, ap, sym, ◌∙◌, eq-eqb, eqb-true}
use Rattle.paper.proofs.Kit.{leb-true, le-leb, leb, eqb, length}
use Rattle.paper.specs.Limits.{smallest_n, largest_n, first_deck}
use Rattle.paper.specs.Cell.{end_of_regions, size_fits}
use Rattle.paper.specs.Sound.{cells_sound, free_count, free_list, free_start, is_zeros, sound}
use Rattle.paper.specs.Region.{regions_sound}
use Rattle.paper.proofs.SoundStore.{and-true as both}
use Rattle.paper.proofs.SoundTest.{end-at-most}
use Rattle.cells.specs.Layout.{unpack_of}
use Rattle.cells.specs.Bridge.{unpacked, cell_in}
use Rattle.cells.specs.Pack.{pack_of, AllFormed}
use Rattle.cells.proofs.Store.{unpacked-length}
use Rattle.regions.specs.declared.Regions.{Regions}
use Rattle.std.specs.Prelude.{Option, Some, None}
use Rattle.regions.specs.Table.{regions_of}
use Rattle.sound.specs.Store.{formed, all_formed, pass_of, state_with, store_sound}
use Rattle.sound.proofs.NumberLaws.{zero_is}
use Rattle.sound.proofs.StoreLaws.{passes}

regroup : (a f r z c l : Bool) → (a && f && (r && z && c && l)) ≡ (a && r && z && (f && c && l))
regroup true true r z c l = and_assoc (r && z) c l
regroup true false r z c l = sym (and-false (r && z))
regroup false f r z c l = refl

pass-none : (b : Bool) (n : ℕ) → cond b (Some n) None ≡ None → b ≡ false
pass-none true n e = clash cc
pass-none false n e = refl

pass-some : (b : Bool) (n k : ℕ) → cond b (Some n) None ≡ Some k → (b ≡ true) × (n ≡ k)
pass-some true n k e = (refl, cc)
pass-some false n k e = clash cc

module _ (r : Regions) (s : List ℕ) where
  abbrev end : ℕ
  end = end_of_regions (regions_of r) first_deck

  abbrev passed : Bool
  passed = passes (length s) end 0 s

  abbrev listed : ℕ → Bool
  listed k = free_list k (unpacked s) (free_start (unpacked s))

  abbrev tabled : Bool
  tabled = regions_sound (length s) first_deck (regions_of r)

  whole : store_sound r s ≡ (leb r.n 23 && tabled && is_zeros (cell_in s 0) && (passed && listed (free_count (unpacked s))))
  unfolding store_sound sound cell_in
  whole =
      let cs = cells_sound (length s) end 0 (unpacked s) in
      rw (unpacked-length s) (regroup (leb r.n 23) (all_formed s) tabled (is_zeros (cell_in s 0)) cs (listed (free_count (unpacked s))))

  -- the first test, of the table, where the regions' answer is t, and of cell 0, whose number is x
  pub from_first : (t f : Bool) (x : ℕ) → t ≡ tabled → cell_in s 0 ≡ unpack_of x → (leb r.n 23 && t && eqb x 0) ≡ f
      → (f && (passed && listed (free_count (unpacked s)))) ≡ store_sound r s
  from_first t f x e g h = rw (← h, e, zero_is x, ← g) (sym whole)

  -- the pass, with the answer t, where the reserved cells end at k
  module _ (t : Option ℕ) (k : ℕ) (ends : k ≡ end) (pass : t ≡ pass_of k s) where
    found : cond passed (Some (free_count (unpacked s))) None ≡ t
    unfolding pass_of
    found = sym (pass ∙ ap (λ (j : ℕ). pass_of j s) ends)

    pub at-none : t ≡ None → false ≡ (passed && listed (free_count (unpacked s)))
    at-none e = rw (pass-none passed (free_count (unpacked s)) (found ∙ e))

    pub at-some : (n : ℕ) → t ≡ Some n → listed n ≡ (passed && listed (free_count (unpacked s)))
    at-some n e = let d = pass-some passed (free_count (unpacked s)) n (found ∙ e) in rw (d.0, d.1)

-- what a store that passes is to its callers: its numbers are formed, and the state that it stands for is sound, whatever its lines and room
formed-all : (s : List ℕ) → all_formed s ≡ true → AllFormed s
unfolding all_formed formed
formed-all [] e = tt
formed-all (x ∷ s) e = let d = both (formed x) (all_formed s) e in (eqb-true (pack_of (unpack_of x)) x d.0, formed-all s d.1)

all-formed : (s : List ℕ) → AllFormed s → all_formed s ≡ true
unfolding all_formed formed
all-formed [] h = refl
all-formed (x ∷ s) h = rw (eq-eqb (pack_of (unpack_of x)) x h.0) (all-formed s h.1)

halves : (r : Regions) (s : List ℕ) → store_sound r s ≡ true → (all_formed s ≡ true) × (sound (state_with r s [] 0) ≡ true)
unfolding store_sound
halves r s e =
    let d = both (leb r.n 23 && all_formed s) (sound (state_with r s [] 0)) e in
    ((both (leb r.n 23) (all_formed s) d.0).1, d.1)

pub passed-formed : (r : Regions) (s : List ℕ) → store_sound r s ≡ true → AllFormed s
passed-formed r s e = formed-all s (halves r s e).0

pub passed-sound : (r : Regions) (s lines : List ℕ) (room : ℕ) → store_sound r s ≡ true → sound (state_with r s lines room) ≡ true
unfolding sound
passed-sound r s lines room e = (halves r s e).1

-- its reserved cells end within it
pub passed-end : (r : Regions) (s : List ℕ) → first_deck ≤ length s → store_sound r s ≡ true → end_of_regions (regions_of r) first_deck ≤ length s
passed-end r s h e =
    let rest = passed r s && listed r s (free_count (unpacked s)) in
    let a = both (leb r.n 23 && tabled r s && is_zeros (cell_in s 0)) rest (sym (whole r s) ∙ e) in
    let b = both (leb r.n 23 && tabled r s) (is_zeros (cell_in s 0)) a.0 in
    end-at-most (length s) (regions_of r) first_deck h (both (leb r.n 23) (tabled r s) b.0).1

-- in form, a store passes just if that state is sound
pub in-form : (r : Regions) (s lines : List ℕ) (room : ℕ) → r.n ≤ 23 → AllFormed s → store_sound r s ≡ sound (state_with r s lines room)
unfolding store_sound sound
in-form r s lines room n f = rw (le-leb r.n 23 n, all-formed s f)

-- "N from 256"; CR 11: "Raise N to 65,535"
pub size-range : (n : ℕ) → size_fits n ≡ true → (smallest_n ≤ n) × (n ≤ largest_n)
size-range n e = let (a, b) = both (leb smallest_n n) (leb n largest_n) e in (leb-true smallest_n n a, leb-true n largest_n b)
