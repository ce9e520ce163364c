-- What follows for a cache that is closed and goes on with its parts.
pub mod Runs
pub mod Schedules
pub mod Digests
pub mod Tickets
pub mod Serving
