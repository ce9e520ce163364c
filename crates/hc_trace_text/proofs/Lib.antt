pub mod Decimals
pub mod Parts
pub mod Orders
pub mod Values
pub mod Rows
