-- That the steps of clients keep the invariant, and what all steps are made of.
pub mod frames
pub mod shapes
pub mod losses
pub mod fresh
pub mod books
pub mod writes
pub mod reads
pub mod jobs
pub mod calls
pub mod storing
pub mod evicting
pub mod structure
