-- The items of all pools, and what is asked before an item is allocated.
pub mod Items
pub mod Allocating
