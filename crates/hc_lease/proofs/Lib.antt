pub mod Stamping
pub mod Serving
pub mod Turning
pub mod Keeping
pub mod Worked
