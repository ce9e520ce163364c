-- Proofs. Whole runs: the device, traces, schedules, and logs of a device that lies.
pub mod Devices
pub mod OrdersStay
pub mod WritesAlone
pub mod Known
pub mod Betweens
pub mod ResultsSuit
pub mod SilentSteps
pub mod Running
pub mod Honesty
pub mod Locked
pub mod Scheduling
pub mod LinesAreSteps
pub mod Traces
pub mod QuietRunning
