-- The free cells of the numbers are those of the store.
use Rattle.paper.proofs.Kit.{ℕ, suc, ◌^◌, ◌<◌, ◌≤◌, ◌≡◌, refl, sym, ap, ◌∙◌, true, false, List, [], ◌∷◌, dec_lt, arith, length, get_or, List·getD-eq-default}
use Rattle.paper.proofs.Kit.{lt-ltb, le-ltb, lt-leb, le-leb}
use Rattle.paper.specs.Cell.{is_free}
use Rattle.paper.specs.Sound.{free_count}
use Rattle.cells.specs.Layout.{unpack_of}
use Rattle.cells.specs.Bridge.{unpacked, cell_in}
use Rattle.cells.proofs.Laws.{by_kind, cond_same, cond-test}
use Rattle.cells.proofs.Store.{cell_at}
use Rattle.promises.specs.Free.{free_number, free_at, free_numbers}

pub free-is : (x : ℕ) → free_number x ≡ is_free (unpack_of x)
free-is x = go (dec_lt x (2 ^ 48))
  where
    go : Dec (x < 2 ^ 48) → free_number x ≡ is_free (unpack_of x)
    go (yes h) = simp (by_kind is_free x, lt-leb _ _ h, lt-ltb _ _ h)
    go (no h) = let k : 2 ^ 48 ≤ x = omega arith in simp (by_kind is_free x, le-ltb _ _ k, le-leb _ _ k, cond_same, cond-test)

-- there are as many
pub free-count : (s : List ℕ) → free_numbers s ≡ free_count (unpacked s)
unfolding free_numbers free_count
free-count [] = refl
free-count (x ∷ s) =
    let p = free-is x in
    let q = free-count s in
    λ i. elim (p i) as (λ _. ℕ) [ true ↦ suc (q i) | false ↦ q i ]

pub free-at : (s : List ℕ) (c : ℕ) → c < length s → free_at s c ≡ is_free (cell_in s c)
free-at s c h = free-is (get_or s c 0) ∙ ap is_free (sym (cell_at s c h))

pub free-out : (s : List ℕ) (c : ℕ) → length s ≤ c → free_at s c ≡ false
free-out s c h = ap free_number (List·getD-eq-default s 0 h)
