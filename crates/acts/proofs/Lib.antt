pub mod Once
pub mod Net
pub mod Auto
pub mod Used
pub mod Dispatch
