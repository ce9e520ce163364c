-- Where two texts differ, and what is said of the log of a trace.
pub mod Difference
pub mod Judged
