-- Read LoadedRuns: what the call `deck::load` leaves, and that `machine::run` takes it.
pub mod LoadedRuns
pub mod PageLaws
