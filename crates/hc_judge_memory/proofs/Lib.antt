-- What the judge's proofs share.
pub mod Filtered
pub mod Evicting
pub mod Lying
