-- Laws of the plain actions.
pub mod Settled
pub mod GivesBack
pub mod Walked
