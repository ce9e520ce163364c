-- The log of a trace, as it comes to be.
pub mod Beginning
pub mod Taken
pub mod Outcome
