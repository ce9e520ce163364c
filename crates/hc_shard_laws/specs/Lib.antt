-- Which steps are which shard's, and whose keys a log speaks of.
pub mod OwnKeys
