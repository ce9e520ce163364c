-- What the judge needs of a configuration, and what it reads off a log.
pub mod Limits
pub mod Reading
