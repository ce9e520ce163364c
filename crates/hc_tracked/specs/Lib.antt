-- Results that come with digests, and a core that keeps digests beside it.
pub mod Reading
pub mod Resting
