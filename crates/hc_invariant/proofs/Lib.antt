-- Proofs. The invariant of the whole cache and the laws of its steps, with a trial that computes both.
pub mod Beginning
pub mod Placing
pub mod Ends
pub mod Frames
pub mod Lookups
pub mod Losses
pub mod Pieces
pub mod Ticking
pub mod RowsHold
pub mod TrialTells
