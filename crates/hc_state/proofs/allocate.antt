-- Lemmas: items are allocated, leave for flash, and are given up.
pub mod Charges
pub mod Evicts
pub mod Frees
pub mod Known
pub mod Refusals
