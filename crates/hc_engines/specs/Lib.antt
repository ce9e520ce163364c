pub mod Engine
pub mod Seen
pub mod Next
pub mod small
pub mod large
pub mod pair
