use Rattle.hc_engines.proofs.large.HeldChanges.{failed_write_changes}
use Rattle.hc_engines.proofs.large_laws.failed_write_changes_held.Goals as goal

pub returns : goal.returns
returns c = failed_write_changes
