-- Laws of a run. Read Carried: demands 1 and 2 of the call.
pub mod RunLaws
pub mod Carried
