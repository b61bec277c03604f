-- Soundness of the lent numbers and a table: both in form, and the store that they are sound (paper/specs/Sound).
use Rattle.std.specs.Prelude.{ℕ, Bool, Option, Some, None, true, cond, ◌&&◌, List, [], ◌∷◌, eqb, leb, length}
use Rattle.paper.specs.Cell.{term_fits, State}
use Rattle.paper.specs.Sound.{takes_term, cell_sound, cells_sound, free_count, sound}
use Rattle.cells.specs.Layout.{unpack_of, term_of}
use Rattle.cells.specs.Pack.{pack_of}
use Rattle.cells.specs.Bridge.{unpacked, state_of}
use Rattle.regions.specs.declared.Regions.{Regions}
use Rattle.regions.specs.Table.{regions_of}

-- x is the number of a cell: no bit is set that its kind does not use
unfoldable pub formed : ℕ → Bool
formed x = eqb (pack_of (unpack_of x)) x

unfoldable pub all_formed : List ℕ → Bool
all_formed [] = true
all_formed (x ∷ s) = formed x && all_formed s

-- the state of the definitions, with the lines printed and the room left
abbrev pub state_with : Regions → List ℕ → List ℕ → ℕ → State
state_with r s lines room = state_of (record { regions = regions_of r; lines = lines; room = room }) s

-- lines and room do not count
unfoldable pub store_sound : Regions → List ℕ → Bool
store_sound r s = leb r.n 23 && all_formed s && sound (state_with r s [] 0)

-- the parts of the code's one pass
unfoldable pub term_sound : ℕ → ℕ → Bool
term_sound c x = formed x && (takes_term c (term_of x) && term_fits (term_of x))

unfoldable pub number_sound : ℕ → ℕ → ℕ → ℕ → Bool
number_sound n end c x = formed x && cell_sound n end c (unpack_of x)

unfoldable pub pass_of : ℕ → List ℕ → Option ℕ
pass_of end s = cond (all_formed s && cells_sound (length s) end 0 (unpacked s)) (Some (free_count (unpacked s))) None
