-- What a plain action and a walk make of the lent numbers and a table.
pub mod Numbers
pub mod Walks
