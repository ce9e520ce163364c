pub mod Seen
pub mod Asked
pub mod Settled
