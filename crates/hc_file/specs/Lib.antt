-- What a device in a file is seen as, and what it says of its operations.
pub mod Devices
pub mod Operations
