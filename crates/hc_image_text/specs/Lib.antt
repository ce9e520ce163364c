-- The bytes of an image: its records one by one, the frames in which they stand, and its head. Of each: its bytes, what bytes are
-- read as, and that these are inverse.
pub mod Numbers
pub mod Leads
pub mod Words
pub mod Items
pub mod Counting
pub mod Regions
pub mod Frames
pub mod Heads
pub mod Images
