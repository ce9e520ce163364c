pub mod Heads
pub mod Numbers
pub mod Pages
pub mod PutEntries
pub mod Zeros
pub mod Scanning
