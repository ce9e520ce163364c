-- What waits for flash, as code holds it.
pub mod Seen
pub mod Fetching
pub mod Stock
pub mod Asked
pub mod Leaving
pub mod Outdating
pub mod After
pub mod Taking
pub mod Starting
pub mod Filled
pub mod Finishing
pub mod Endings
pub mod Resting
