-- Items are allocated, and leave for flash to make room.
pub mod Charge
pub mod Evict
