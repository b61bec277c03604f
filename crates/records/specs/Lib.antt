-- What the code reads of a record, as the definitions have it.
pub mod Symbols
