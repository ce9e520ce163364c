-- What the devices of this crate are seen as, and what they say of their operations.
pub mod Devices
pub mod Digests
pub mod Operations
