-- What removes answer.
pub mod Answer
