-- Marks and the order of cells met, what a walk leaves in them, and what a copy keeps there.
pub mod Marks
pub mod Walks
pub mod Net
pub mod Copies
