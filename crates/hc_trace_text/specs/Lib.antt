-- What a line of a trace says, and what is printed for it.
pub mod Lines
pub mod Numbers
pub mod Steps
pub mod Grammar
pub mod Seen
pub mod Texts
