-- Calls that wait for a key from flash: what they are owed, what is planned for them, and how they are served.
pub mod Begin
pub mod Commit
pub mod Courses
pub mod Plan
