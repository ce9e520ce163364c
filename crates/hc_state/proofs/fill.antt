-- Lemmas: fills are taken and end.
pub mod BareEnds
pub mod Brings
pub mod Done
pub mod Filled
pub mod Finishes
pub mod ItemEnds
pub mod Keys
pub mod Links
pub mod Owns
pub mod Plans
pub mod Ready
pub mod Steps
pub mod Ways
