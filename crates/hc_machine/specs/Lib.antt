-- The cache with flash as one machine.
pub mod items
pub mod Nvm
pub mod Leaving
pub mod Takes
pub mod Cache
pub mod Evicting
pub mod Waiting
pub mod Calls
pub mod Workers
pub mod Call
pub mod World
pub mod Schedule
pub mod Quiet
