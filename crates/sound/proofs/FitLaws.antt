-- The numbers of a sound store: each cell fits its fields, so its number unpacks to it and is in form.
use Rattle.paper.proofs.Kit.{ℕ, suc, ◌<◌, ◌≡◌, refl, ap, List, [], ◌∷◌, arith, length, get_or, pos, negsuc, ◌^◌, ltb, ltb-true}
use Rattle.paper.specs.Cell.{Cell, free, word, term, integer, floating, process, State}
use Rattle.paper.specs.Term.{is_finite}
use Rattle.paper.proofs.SoundStore.{Frame, at, CellOk, Sound, and-true}
use Rattle.cells.specs.Pack.{CellFits, AllFormed, pack_of, packed}
use Rattle.cells.specs.Bridge.{unpacked}
use Rattle.cells.proofs.Laws.{unpack-pack}

-- what may stand in a cell of a sound store fits the fields of its number
cell-fits : (F : Frame) (c : ℕ) (x : Cell) → CellOk F c x → CellFits x
cell-fits F c (free l) k = omega (arith, k.link<, F.small)
cell-fits F c (word w) k = record {
  p = omega (arith, k.p≤7);
  q = omega (arith, k.q≤4);
  symb = omega (arith, k.symb<, F.small);
  link = omega (arith, k.link<, F.small);
}
cell-fits F c (term (integer (pos n))) k = omega (arith, k.range)
cell-fits F c (term (integer (negsuc n))) k = omega (arith, k.range)
cell-fits F c (term (floating b)) k = ltb-true b (2 ^ 32) (and-true (ltb b (2 ^ 32)) (is_finite b) k.range).0
cell-fits F c process k = tt

abbrev pub EachFits : List Cell → Type 0
EachFits cs = (c : ℕ) → c < length cs → CellFits (get_or cs c (free 0))

pub sound-fits : (F : Frame) (t : State) → Sound F t → EachFits t.cells
sound-fits F t i c l = cell-fits F c (at t c) (i.each c (omega (arith, l, i.size)))

later : (x : Cell) (cs : List Cell) → EachFits (x ∷ cs) → EachFits cs
later x cs h c l = h (suc c) (omega (arith, l))

pub unpacked-packed : (cs : List Cell) → EachFits cs → unpacked (packed cs) ≡ cs
unpacked-packed [] h = refl
unpacked-packed (x ∷ cs) h = rw (unpack-pack x (h 0 (omega arith)), unpacked-packed cs (later x cs h))

pub packed-formed : (cs : List Cell) → EachFits cs → AllFormed (packed cs)
packed-formed [] h = tt
packed-formed (x ∷ cs) h = (ap pack_of (unpack-pack x (h 0 (omega arith))), packed-formed cs (later x cs h))
