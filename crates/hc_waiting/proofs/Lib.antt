-- Pieces by their keys, and the puts, the tombstones and the fills as pieces.
pub mod Mapped
pub mod Numbered
pub mod Pieces
pub mod Stones
pub mod Filling
pub mod Led
pub mod Apart
pub mod Owing
pub mod Readied
