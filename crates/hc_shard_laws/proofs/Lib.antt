-- A run begins calls of the keys that its steps name.
pub mod Keys
