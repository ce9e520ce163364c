-- Lemmas: removes.
pub mod Commits
pub mod Short
