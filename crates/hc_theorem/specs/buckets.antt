-- Jobs of buckets: what all their results share.
pub mod Small
pub mod SmallJobs
