-- Keys are inserted or removed: what is made ready before, what is linked, and what is told.
pub mod Chosen
pub mod Clear
pub mod Commit
pub mod Insert
pub mod Link
pub mod Plan
