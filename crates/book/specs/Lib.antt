-- What the code keeps while it loads, and what its contracts say.
pub mod Kept
pub mod Booked
