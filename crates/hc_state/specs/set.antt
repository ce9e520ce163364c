-- Values that are stored in one step.
pub mod Short
