-- How contracts see both engines as one.
pub mod Joined
pub mod Found
pub mod Endings
pub mod Resting
