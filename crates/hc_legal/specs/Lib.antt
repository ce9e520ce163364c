-- What judges a log.
pub mod Judge
pub mod Replies
