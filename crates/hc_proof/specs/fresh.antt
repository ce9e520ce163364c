-- A fill has no answered insert or remove of its key since it opened.
pub mod Answers
