-- What each step of the machine does, law by law.
pub mod First
pub mod Walking
pub mod Evicting
pub mod Filling
pub mod Finding
pub mod Inserting
pub mod Refusing
pub mod Serving
pub mod Telling
pub mod Tombstones
