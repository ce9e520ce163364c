-- Proofs. Room is made, and what came from flash is linked: allocate, discard.
pub mod CallsStand
pub mod FlashMemory
pub mod ItemsLeave
pub mod Evicted
pub mod Room
pub mod Charging
pub mod Allocating
pub mod LinkedClean
