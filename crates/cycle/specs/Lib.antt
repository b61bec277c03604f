-- What the parts of a cycle have done, and a cycle as a whole.
pub mod Moves
pub mod Order
pub mod Reaches
pub mod Parts
pub mod Turns
