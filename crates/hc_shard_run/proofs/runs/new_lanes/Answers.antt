use Rattle.std.proofs.Common.{[], None}
use Rattle.hc_engines.specs.Engine.{Pages}
use Rattle.hc_shard_run.proofs.Turning.{lanes-own}
use Rattle.hc_shard_run.proofs.runs.new_lanes.Goals as goal

pub give_up-requires : goal.give_up-requires
give_up-requires g c =
    let held : Pages = λ page. None in
    record { own = lanes-own c.args.sharded.now held [] c.push_all.new.lanes.items c.requires.right (c.push_all.ensures.lanes held) }
