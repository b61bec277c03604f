-- The words of the promises that no contract has.
pub mod Cycles
pub mod Free
pub mod Example
