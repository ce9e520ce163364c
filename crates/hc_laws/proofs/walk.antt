-- Proofs. The one walk over the machine's functions: what each never tells, and how it leaves flash.
pub mod Parts
pub mod Calls
