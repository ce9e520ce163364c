pub mod Over
pub mod Rows
pub mod Worked
