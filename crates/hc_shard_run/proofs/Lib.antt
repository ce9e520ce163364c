pub mod Stepping
pub mod Going
pub mod Turning
pub mod Ending
mod Fitting
