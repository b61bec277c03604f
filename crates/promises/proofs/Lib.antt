-- What is promised of the public calls, each statement to be read without its proof.
pub mod OneOutcome
pub mod EveryCycle
pub mod FreeLaws
pub mod Freed
pub mod Demand3Calls
pub mod InCycle
pub mod Lines
pub mod Tally
pub mod ExampleHolds
