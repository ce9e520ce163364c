pub mod Rows
pub mod Closed
