-- The first piece of each lane, and what a change of the queue makes of it; pieces by their places, and by their keys.
pub mod Firsts
pub mod Free
pub mod Besides
pub mod Gone
pub mod Pushed
pub mod Noted
pub mod Keeping
pub mod Places
pub mod Settling
pub mod ByKey
pub mod Valued
pub mod FirstOf
pub mod Oldest
