-- How contracts see the large engine's code.
pub mod Large
pub mod Indexes
pub mod Moves
pub mod Works
pub mod Ends
pub mod Going
pub mod Settling
pub mod Reads
pub mod Turns
pub mod Endings
pub mod Resting
