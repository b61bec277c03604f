-- The region table of the code, and the form in which a run lends it.
pub mod Table
pub mod Lent
