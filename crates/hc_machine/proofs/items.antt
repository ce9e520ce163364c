-- What is proved of the items of all pools, and of the charges that books have for them.
pub mod Items
pub mod Flat
pub mod Same
pub mod Numbers
pub mod FullPool
