-- Laws that the proofs cite: a loop over W0 to Wn, and a pop that is one with a push.
pub mod Each
pub mod Pops
