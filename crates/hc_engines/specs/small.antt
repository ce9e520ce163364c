-- BigHash as a machine on lists and numbers, and what it holds.
pub mod Bloom
pub mod Entries
pub mod BigHash
pub mod Sound
pub mod Held
