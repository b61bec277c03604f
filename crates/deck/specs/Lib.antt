-- What the contracts of the loader say.
pub mod Load
