-- Both engines as one, and the large one in the words of any engine.
pub mod Pair
pub mod Large
pub mod Held
pub mod Apart
pub mod Below
