-- Lines, and what the cache and the device do for them.
pub mod Resulting
pub mod Acting
pub mod Storing
pub mod Refusing
pub mod Likening
