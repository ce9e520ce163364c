pub mod Closing
pub mod Asking
