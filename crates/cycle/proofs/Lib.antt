-- Laws of the parts of a cycle.
pub mod OperateLaws
pub mod ReachLaws
pub mod PartLaws
pub mod ExecuteLaws
pub mod FetchLaws
pub mod OrderLaws
pub mod InterpretLaws
pub mod CountLaws
pub mod TurnLaws
pub mod CycleLaws
