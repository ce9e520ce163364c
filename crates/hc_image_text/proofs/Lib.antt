-- What is proved of the bytes of an image.
pub mod Rows
pub mod Again
pub mod Behind
pub mod Framed
pub mod Whose
pub mod Headed
pub mod Imaged
pub mod Reading
