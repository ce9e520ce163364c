-- Proofs. Which charges each step makes, and which it frees.
pub mod Notes
pub mod Pieces
pub mod Takes
pub mod Waited
pub mod Structures
pub mod Steps
