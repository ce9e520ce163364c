-- Lines, and what comes of them.
mod Splitting
mod Hearing
