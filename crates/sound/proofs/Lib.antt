-- Laws of a number and of the loops over the cells (Number, Store), of the whole test (Sound), of what a call is answered (Ask), and of the
-- numbers of a sound store (Fit).
pub mod NumberLaws
pub mod StoreLaws
pub mod SoundLaws
pub mod AskLaws
pub mod FitLaws
