-- What is proved of the image of a cache.
pub mod Alone
pub mod Behind
pub mod Fitting
pub mod Giving
pub mod Idle
pub mod Refusing
pub mod Right
pub mod Again
pub mod Streams
