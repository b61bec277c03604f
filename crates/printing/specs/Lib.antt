-- What code that prints has done, and the text of a line.
pub mod Text
pub mod Telling
