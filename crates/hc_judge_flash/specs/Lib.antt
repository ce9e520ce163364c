-- How the judge of flash sees puts, and what is filed.
pub mod Filed
pub mod Puts
