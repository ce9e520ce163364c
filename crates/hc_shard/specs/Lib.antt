pub mod Shard
