-- Proofs: what loops keep, and what a result that is handed in does.
pub mod Looping
pub mod Fresh
pub mod Reading
pub mod Paging
pub mod Places
pub mod Handing
pub mod Rows
pub mod Peeks
