-- Lemmas: values are stored in one step.
pub mod Sets
pub mod Supersedes
