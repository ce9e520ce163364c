use Rattle.std.proofs.Common.{◌+◌, ◌*◌, length}
use Rattle.hc_shard_threads.proofs.serving.+fn-serve_from-serve_one+serve_from.Given as goal

-- the shards that are left, twice: the closure stands between two calls
abbrev pub decreases-serve_one : goal.decreases-serve_one
decreases-serve_one g l = 2 * length l.others.now + 1

abbrev pub decreases-serve_from : goal.decreases-serve_from
decreases-serve_from g l = 2 * length l.lanes.now
