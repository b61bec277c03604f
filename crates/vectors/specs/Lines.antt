-- The digest of the cells, what stood where nothing was written, and digits; and the three plain actions by their place in a case.
use Rattle.std.specs.Prelude.{ℕ, ◌+◌, ◌*◌, ◌/◌, ◌%◌, Bool, cond, List, eqb, ltb}
use Rattle.std.specs.List.{fold, list_all}
use Rattle.paper.specs.Act.{Act}
use Rattle.paper.specs.Plain.{preserve_h0}
use Rattle.paper.specs.Process.{J72, J74}

-- "from 0, for each cell w, h becomes (h * 1000003 + w) % 1000000007" (tools/pack-vectors)
abbrev pub prime : ℕ
prime = 1000000007

abbrev pub mixed : ℕ → ℕ → ℕ
mixed h w = (h % prime * 1000003 + w % prime) % prime

abbrev pub digest_from : ℕ → List ℕ → ℕ
digest_from h ws = fold mixed h ws

-- every number is x
abbrev pub all_are : ℕ → List ℕ → Bool
all_are x ys = list_all (λ y. eqb y x) ys

-- what stands in every cell before a load, and in the room before a run
abbrev pub spoilt : ℕ
spoilt = 12297829382473034410

abbrev pub unwritten : ℕ
unwritten = 238

-- a digit from 0 to 15, and the first or the second of a byte
abbrev pub glyph_of : ℕ → ℕ
glyph_of x = cond (ltb x 10) (48 + x) (87 + x)

abbrev pub digit_of : ℕ → Bool → ℕ
digit_of b first = cond first (glyph_of (b / 16)) (glyph_of (b % 16))

-- demand 3: preserve, copy, erase
abbrev pub action_at : ℕ → Act (Unit {0})
action_at n = cond (eqb n 0) preserve_h0 (cond (eqb n 1) J74 J72)
