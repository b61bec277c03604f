-- Laws of the walk, and of freeing and copying what was walked.
pub mod Marks
pub mod Leads
pub mod Meeting
pub mod Holding
pub mod Turn
pub mod Lists
pub mod Loops
pub mod FreeNet
pub mod Run
pub mod CopyNet
pub mod Halves
pub mod Whole
