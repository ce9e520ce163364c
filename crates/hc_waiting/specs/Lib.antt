-- What waits for flash, and the replies that are owed, as contracts see them.
pub mod Line
pub mod Puts
pub mod Tombstones
pub mod Fills
pub mod Seen
pub mod Replies
