-- When the workers have nothing to do.
pub mod Idling
pub mod Accounted
pub mod AccountsKept
pub mod Still
pub mod Takings
pub mod Stones
