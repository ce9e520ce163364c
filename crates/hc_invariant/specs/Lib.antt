-- The invariant of the whole cache, the laws of its steps, and a trial that computes both; and what holds whatever the device answers.
pub mod Standing
pub mod Tells
pub mod Jobs
pub mod Fresh
pub mod Good
pub mod LargeAlone
pub mod Structure
pub mod Laws
pub mod Alike
pub mod TrialOfFlash
pub mod Trial
