-- What the steps of the machine keep, as one call or one result sees it: frames, losses, regions, calls, and which shape jobs have.
pub mod frames
pub mod shapes
pub mod losses
pub mod fresh
pub mod books
pub mod jobs
pub mod calls
pub mod evicting
pub mod structure
