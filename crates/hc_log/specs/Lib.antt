-- A log as text.
pub mod Text
