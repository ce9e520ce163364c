-- Proofs of what is true of every trace.
pub mod Logs
pub mod Answered
pub mod Same
pub mod Rows
