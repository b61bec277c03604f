-- Laws that the proofs share.
pub mod FreshLaws
pub mod RecordLaws
pub mod TableLaws
pub mod ReadLaws
pub mod LoopLaws
pub mod OutcomeLaws
