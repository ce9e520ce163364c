use Rattle.std.proofs.Common.{◌<◌, arith}
use Rattle.hc_shards.proofs.Sharing.{sharded-right}
use Rattle.hc_shard_run.proofs.steps.names_own.Goals as goal

pub shard_of-requires : goal.shard_of-requires
shard_of-requires g c = omega (arith, (sharded-right c.args.sharded.now c.requires).some)

pub shard_of-requires-in-Find : goal.shard_of-requires-in-Find
shard_of-requires-in-Find g c = omega (arith, (sharded-right c.args.sharded.now c.requires).some)

pub shard_of-requires-in-Remove : goal.shard_of-requires-in-Remove
shard_of-requires-in-Remove g c = omega (arith, (sharded-right c.args.sharded.now c.requires).some)
