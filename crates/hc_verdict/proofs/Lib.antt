-- What is found of a log.
pub mod Finding
pub mod Limiting
