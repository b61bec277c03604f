-- Laws that the proofs cite: words by their numbers.
pub mod Words
