-- Proofs. The workers are idle only where there is nothing for them to do.
pub mod Idle
pub mod Accounts
pub mod AccountsOfResults
pub mod FullPages
pub mod StillParts
pub mod TakesStill
pub mod StonesRun
pub mod StonesKept
pub mod AccountsPass
pub mod AccountsRun
pub mod AccountsKept
