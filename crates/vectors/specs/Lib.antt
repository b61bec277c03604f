-- What the program makes of the bytes that it reads, and what its lines are made of.
pub mod Input
pub mod Lines
