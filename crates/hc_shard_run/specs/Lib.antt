-- Shards that run among each other over one device.
pub mod Steps
pub mod Ran
pub mod Lanes
