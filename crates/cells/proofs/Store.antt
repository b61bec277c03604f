-- Laws of the bridge: a cell read and written through `map unpack_of`, and stores whose numbers are all formed.
use Rattle.paper.proofs.Kit.{ℕ, zero, suc, ◌<◌, ◌≤◌, ◌^◌, List, [], ◌∷◌, ◌≡◌, refl, ap, arith, length, get_or, set}
use Rattle.paper.specs.Cell.{Cell, free}
use Rattle.cells.specs.Layout.{unpack_of}
use Rattle.cells.specs.Pack.{pack_of, AllFormed, packed}
use Rattle.cells.specs.Bridge.{unpacked, cell_in}

pub cell_at : (s : List ℕ) (c : ℕ) → c < length s → cell_in s c ≡ unpack_of (get_or s c 0)
unfolding cell_in
cell_at [] c h = absurd (omega arith)
cell_at (x ∷ s) zero h = refl
cell_at (x ∷ s) (suc c) h = cell_at s c (omega arith)

pub cell_out : (s : List ℕ) (c : ℕ) → length s ≤ c → cell_in s c ≡ free 0
unfolding cell_in
cell_out [] c h = refl
cell_out (x ∷ s) zero h = absurd (omega arith)
cell_out (x ∷ s) (suc c) h = cell_out s c (omega arith)

pub unpacked-set : (s : List ℕ) (c x : ℕ) → unpacked (set s c x) ≡ set (unpacked s) c (unpack_of x)
unpacked-set [] c x = refl
unpacked-set (y ∷ s) zero x = refl
unpacked-set (y ∷ s) (suc c) x = ap (λ (t : List Cell). unpack_of y ∷ t) (unpacked-set s c x)

pub unpacked-length : (s : List ℕ) → length (unpacked s) ≡ length s
unpacked-length [] = refl
unpacked-length (x ∷ s) = ap suc (unpacked-length s)

-- formed numbers are told by their cells
pub packed-unpacked : (s : List ℕ) → AllFormed s → packed (unpacked s) ≡ s
packed-unpacked [] h = refl
packed-unpacked (x ∷ s) h = rw (h.0, packed-unpacked s h.1)

pub formed-set : (s : List ℕ) (c x : ℕ) → pack_of (unpack_of x) ≡ x → AllFormed s → AllFormed (set s c x)
formed-set [] c x f h = h
formed-set (y ∷ s) zero x f h = (f, h.1)
formed-set (y ∷ s) (suc c) x f h = (h.0, formed-set s c x f h.1)

pub formed-at : (s : List ℕ) (c : ℕ) → c < length s → AllFormed s → pack_of (unpack_of (get_or s c 0)) ≡ get_or s c 0
formed-at [] c k h = absurd (omega arith)
formed-at (x ∷ s) zero k h = h.0
formed-at (x ∷ s) (suc c) k h = formed-at s c (omega arith) h.1

-- the number at a place, or that of a free cell past the end
pub cell_or : (s : List ℕ) (c : ℕ) → cell_in s c ≡ unpack_of (get_or s c (2 ^ 48))
unfolding cell_in unpack_of
cell_or [] c = refl
cell_or (x ∷ s) zero = refl
cell_or (x ∷ s) (suc c) = cell_or s c
