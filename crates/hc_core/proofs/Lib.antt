-- Lemmas.
pub mod Short
pub mod Guarding
pub mod Keeping
pub mod Opening
pub mod Calling
pub mod Joining
pub mod Resumed
mod Unread
