-- What the judge's proofs share.
pub mod Refused
pub mod Losses
pub mod PageEntries
pub mod Pushed
