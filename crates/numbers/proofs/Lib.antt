-- Laws of what an operation gives.
pub mod Fitting
