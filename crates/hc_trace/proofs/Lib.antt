pub mod Likening
pub mod Losses
pub mod Streams
