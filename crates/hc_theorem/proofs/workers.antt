-- Proofs. The steps of the workers and of the device follow.
pub mod Made
pub mod Filled
pub mod Served
pub mod JobsOut
pub mod Takes
pub mod Finishes
pub mod Busy
pub mod Searching
pub mod Lines
pub mod Draining
pub mod Regions
pub mod Workers
pub mod Schedules
