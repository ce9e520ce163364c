use Rattle.hc_engines.proofs.large.HeldChanges.{reclaim_changes}
use Rattle.hc_engines.proofs.large_laws.reclaim_changes_held.Goals as goal

pub returns : goal.returns
returns c = reclaim_changes
