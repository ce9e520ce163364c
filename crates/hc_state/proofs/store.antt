-- Lemmas: keys are inserted or removed.
pub mod Commits
pub mod Fewer
pub mod Inserts
pub mod Links
pub mod Planted
pub mod Stored
pub mod Unqueued
