pub mod CacheAsBox
pub mod ImageAsBox
pub mod Untaken
pub mod ValueAsBox
