-- The image of a cache at rest: the frames that it is made of, what a saver still has to give, and what a loader makes of frames, or why
-- it refuses them.
pub mod Saved
pub mod Saving
pub mod Refusing
pub mod Fitting
pub mod Loading
pub mod Again
