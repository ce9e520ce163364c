-- How contracts see the steps of the jobs of BigHash.
pub mod Paged
pub mod Steps
pub mod Handed
pub mod Found
pub mod Endings
