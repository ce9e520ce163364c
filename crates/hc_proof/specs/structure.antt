-- What holds of the cache whatever the device answers: that each step keeps it.
pub mod Operations
pub mod Found
pub mod Parts
pub mod Takes
pub mod Steps
