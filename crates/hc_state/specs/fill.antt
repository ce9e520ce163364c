-- Fills end: what is made ready before, what flash tells, and what is linked.
pub mod Bring
pub mod Commit
pub mod Link
pub mod Plan
