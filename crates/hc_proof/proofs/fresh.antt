-- Proofs. A fill has no answered insert or remove of its key since it opened.
pub mod Speaking
pub mod Calming
pub mod Freshness
pub mod Called
