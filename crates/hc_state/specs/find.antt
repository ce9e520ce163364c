-- What finds answer.
pub mod Answer
pub mod Copy
