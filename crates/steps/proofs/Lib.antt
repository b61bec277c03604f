-- The laws that join lines of a block: one for each way.
pub mod Steps
pub mod Sequence
pub mod Rest
pub mod Listed
