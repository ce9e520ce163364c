-- How contracts see the regions of the code.
pub mod Seen
pub mod Growing
pub mod Stages
pub mod Pins
pub mod CleanNumbers
pub mod Numbers
pub mod Decoding
pub mod Resting
