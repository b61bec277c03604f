-- CR 11: "answers 1 and 4 and their edge cases follow": the last that is accepted, and the first that is not.
use Rattle.paper.proofs.Kit.{◌≡◌, refl, true, false, none, some}
use Rattle.paper.specs.Cell.{size_fits}
use Rattle.paper.specs.Step.{choose}
use Rattle.paper.specs.Record.{field, Local}

-- "Raise N to 65,535": below it begins at 256, as before
pub sizes : (size_fits 255 ≡ false) × (size_fits 256 ≡ true) × (size_fits 65535 ≡ true) × (size_fits 65536 ≡ false)
sizes = (refl, refl, refl, refl)

-- "and locals to 0..999"
pub locals : (field 0x39 0 ≡ some (Local 0)) × (field 0x39 999 ≡ some (Local 999)) × (field 0x39 1000 ≡ none)
unfolding field choose
locals = (refl, refl, refl)
