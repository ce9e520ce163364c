-- What is proved of both engines as one.
pub mod Steps
pub mod Peeks
pub mod Closing
pub mod Rested
