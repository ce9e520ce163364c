-- What contracts say of a queue, its lanes, and its keys.
pub mod Keys
pub mod Queue
pub mod Queued
