-- Proofs. What holds of the cache whatever the device answers, kept by each step.
pub mod Operations
pub mod LargeAlone
pub mod Keeps
pub mod Parts
pub mod Pieces
pub mod Serving
pub mod Rooms
pub mod Calls
pub mod Jobs
pub mod Takes
pub mod Workers
