-- The digests follow the log.
pub mod Configured
pub mod Tracking
pub mod Alike
