pub mod Deciding
pub mod Ending
pub mod Keeping
pub mod Owing
pub mod Past
pub mod Rows
pub mod Walking
