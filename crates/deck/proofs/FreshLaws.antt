-- The cells before any word, and loops that fill a slice from the front.
use Rattle.paper.proofs.Kit.{ℕ, suc, ◌+◌, ◌<◌, Bool, false, List, [], ◌∷◌, ◌≡◌, refl, ap, sym, ◌∙◌, subst, arith, ℕ_discrete, length, get_or, set, replicate}
use Rattle.paper.proofs.Kit.{get_or-set_same, get_or-set_other}
use Rattle.paper.specs.Limits.{first_deck, many_locals}
use Rattle.paper.specs.Cell.{Region, end_of_regions, Cell, word, empty_word}
use Rattle.paper.specs.Deck.{fresh_cell, cells_from, fresh, fresh_book}
use Rattle.cells.specs.Layout.{unpack_of}
use Rattle.cells.specs.Pack.{Packs, AllFormed}
use Rattle.cells.specs.Bridge.{unpacked}
use Rattle.book.specs.declared.locals.Local.{Local}
use Rattle.book.specs.declared.Notes.{Notes}
use Rattle.book.specs.Kept.{held, book_of, no_notes, unmentioned}
use Rattle.book.proofs.KeptLaws.{local-none}

pub packs-as : {r : ℕ} {x y : Cell} → x ≡ y → Packs r y → Packs r x
packs-as {r} e p = subst (λ (z : Cell). Packs r z) (sym e) p

pub empty-packs : Packs 0x400000000 (word (empty_word 0))
unfolding unpack_of
empty-packs = record { unpacks = refl; formed = refl }

-- what holds of the elements before i holds after one more is stored
pub set_below : {A : Type 0} (P : ℕ → A → Type 0) (l : List A) (i : ℕ) (x d : A) → i < length l → ((j : ℕ) → j < i → P j (get_or l j d)) → P i x
    → (j : ℕ) → j < i + 1 → P j (get_or (set l i x) j d)
set_below {A} P l i x d h b p j k = go (ℕ_discrete j i)
  where
    go : Dec (j ≡ i) → P j (get_or (set l i x) j d)
    go (yes e) = rw (e, get_or-set_same l i x d h) p
    go (no n) = rw (get_or-set_other l i j x d n) (b j (omega arith))

-- cells laid one by one
laid_cells : (f : ℕ → Cell) (s : List ℕ) (c : ℕ) → ((j : ℕ) → j < length s → Packs (get_or s j 0) (f (c + j))) → unpacked s ≡ cells_from f (length s) c
unfolding cells_from
laid_cells f [] c h = refl
laid_cells f (x ∷ s) c h =
    let z : c + 0 ≡ c = omega arith in
    let t = laid_cells f s (suc c) (λ j b. let e : suc c + j ≡ c + suc j = omega arith in rw e (h (suc j) (omega arith))) in
    rw ((h 0 (omega arith)).unpacks, z, t)

laid-formed : (f : ℕ → Cell) (s : List ℕ) (c : ℕ) → ((j : ℕ) → j < length s → Packs (get_or s j 0) (f (c + j))) → AllFormed s
laid-formed f [] c h = tt
laid-formed f (x ∷ s) c h = (
  (h 0 (omega arith)).formed,
  laid-formed f s (suc c) (λ j b. let e : suc c + j ≡ c + suc j = omega arith in rw e (h (suc j) (omega arith))),
)

pub laid : (f : ℕ → Cell) (s : List ℕ) (n : ℕ) → length s ≡ n → ((j : ℕ) → j < n → Packs (get_or s j 0) (f j))
    → (unpacked s ≡ cells_from f n 0) × AllFormed s
laid f s n e h = (laid_cells f s 0 each ∙ ap (λ (k : ℕ). cells_from f k 0) e, laid-formed f s 0 each)
  where
    each : (j : ℕ) → j < length s → Packs (get_or s j 0) (f (0 + j))
    each j b = let z : 0 + j ≡ j = omega arith in rw z (h j (omega arith))

-- the book before any word
pub begun : (rs : List Region) (k : Notes) (l : List Local) (s : List ℕ) (m m' : List Bool) (n e : ℕ) → e ≡ end_of_regions rs first_deck
    → unpacked s ≡ cells_from (fresh_cell n e) n 0
    → m' ≡ replicate (length m) false → length m ≡ n → l ≡ replicate many_locals unmentioned → k ≡ no_notes
    → book_of (held rs k l s m') ≡ fresh_book n rs
unfolding fresh
begun rs k l s m m' n e end cells marks size locals notes = rw (notes, locals, local-none many_locals, cells, end, marks, size)
