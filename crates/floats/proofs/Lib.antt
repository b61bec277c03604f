-- How the tests on bits are those of the numbers, and what is asked before bits are taken for a number.
pub mod Laws
