-- The code says in a Bool whether control has moved.
use Rattle.std.specs.Prelude.{Bool, true, false}
use Rattle.paper.specs.Cycle.{Control, goes_on, moved}

abbrev pub control_of : Bool → Control
control_of true = moved
control_of false = goes_on
