-- What a bucket page is, how its bytes are read, its Bloom word, and what a put pushes out.
pub mod Page
pub mod Placed
pub mod Reading
pub mod Whole
pub mod Bloom
pub mod Putting
