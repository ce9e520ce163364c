-- Whole runs: the device, traces, schedules, and logs of a device that lies.
pub mod Alone
pub mod Between
pub mod NoIo
pub mod Device
pub mod Honesty
pub mod Lock
pub mod Runs
pub mod Schedule
pub mod QuietRuns
pub mod Scene
pub mod Lines
