-- What a replay prints, as it goes.
pub mod Places
pub mod Telling
pub mod Trace
