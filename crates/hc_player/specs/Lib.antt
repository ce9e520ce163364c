-- A cache over a device in memory, and what a line of a trace does to it.
pub mod Seen
pub mod Devices
pub mod Alike
pub mod Playing
