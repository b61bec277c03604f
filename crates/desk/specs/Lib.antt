-- What the contracts of the program's call say.
pub mod Page
