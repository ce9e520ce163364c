-- Proofs. What fills the slots of a schedule, and what is true between two of its steps.
pub mod Opens
pub mod Serving
pub mod Takes
pub mod Calls
pub mod Scenes
