-- What a trace comes to, with flash or without.
pub mod Actions
pub mod Trace
pub mod Promise
pub mod Runs
pub mod Turns
