-- The text of a note, and how it is read.
pub mod Text
pub mod Said
pub mod Reading
pub mod Seen
pub mod Left
