-- Lemmas: calls wait for a key from flash, and are served.
pub mod Courses
pub mod Ends
pub mod Freeing
pub mod NoFlash
pub mod Owed
pub mod Plans
pub mod Served
pub mod Serves
