-- What clap makes of the words of a command line.
pub mod Reading
pub mod Walks
