-- What is proved of the regions of the code.
pub mod Cleans
pub mod Listed
pub mod Making
pub mod Counted
pub mod Rising
