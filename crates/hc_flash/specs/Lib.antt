-- What a device is asked and may answer, and what the devices of this crate are seen as.
pub mod Answers
pub mod Devices
pub mod Operations
pub mod Seen
