use Rattle.hc_engines.proofs.large.Holding.{held_taken}
use Rattle.hc_engines.proofs.large_laws.take_changes_held.Goals as goal

pub returns : goal.returns
returns c = held_taken
