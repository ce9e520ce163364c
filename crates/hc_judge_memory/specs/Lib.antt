-- What the judge of memory finds.
pub mod Calls
pub mod Evictions
pub mod Ends
pub mod Lies
