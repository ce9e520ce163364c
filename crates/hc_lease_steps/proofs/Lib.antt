-- Proofs. What each call of the machine tells its stamps, and what a ticket promises of any calls.
pub mod Telling
pub mod Running
pub mod Deleting
pub mod Storing
pub mod Serving
pub mod Replying
pub mod Worked
