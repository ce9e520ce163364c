-- Schedules over any device: the machine's runs, where the device fails by itself as it did.
pub mod Steps
pub mod Slots
pub mod Asked
pub mod Shows
pub mod Devices
pub mod Runs
pub mod Going
pub mod Laws
pub mod Ending
pub mod QuietRuns
