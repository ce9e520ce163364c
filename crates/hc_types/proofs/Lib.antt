-- Sums over lists, for whoever counts, and the definitions against values worked out by hand.
pub mod Tallies
pub mod Rows
mod Showing
pub mod Rooms
