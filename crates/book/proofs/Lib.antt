-- Laws that the proofs share.
pub mod Lines
pub mod KeptLaws
pub mod StepLaws
pub mod StartLaws
pub mod ListedLaws
