-- A cell in one number, and the lent numbers as the state of the definitions.
pub mod Layout
pub mod Pack
pub mod Bridge
