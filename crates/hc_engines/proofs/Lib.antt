pub mod Keys
pub mod Words
pub mod small
pub mod large
pub mod pair
