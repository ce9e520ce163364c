-- Lemmas: finds.
pub mod Copies
pub mod Hits
pub mod Looks
pub mod Steps
