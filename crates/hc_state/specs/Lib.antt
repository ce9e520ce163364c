-- A cache with flash as contracts see it, and the parts of its steps.
pub mod Answers
pub mod Numbers
pub mod Resting
pub mod Tells
pub mod Whole
pub mod Workers
pub mod allocate
pub mod fill
pub mod find
pub mod remove
pub mod set
pub mod store
pub mod wait
