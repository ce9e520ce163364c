-- Proofs. The books of regions against the large engine: what each of its steps keeps, and what they share.
pub mod Filings
pub mod RegionsInUse
pub mod Placed
pub mod Changing
pub mod Elsewhere
pub mod Ending
pub mod Taking
