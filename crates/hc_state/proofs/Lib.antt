-- Lemmas.
pub mod Alone
pub mod Beginning
pub mod Begun
pub mod ComingBack
pub mod Configured
pub mod HandedOut
pub mod Joining
pub mod Numbered
pub mod Once
pub mod Rebegun
pub mod Rested
pub mod Sized
pub mod Stepping
pub mod Taken
pub mod Unchanged
pub mod Unkept
pub mod Works
