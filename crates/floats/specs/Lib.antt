-- What an operation on floating terms leaves, and which operation or relation is meant.
pub mod Kept
