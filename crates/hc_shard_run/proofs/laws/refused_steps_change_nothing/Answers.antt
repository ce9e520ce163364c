use Rattle.hc_shard_run.proofs.Stepping.{refused-steps}
use Rattle.hc_shard_run.proofs.laws.refused_steps_change_nothing.Goals as goal

pub returns : goal.returns
returns c = refused-steps
