use Rattle.hc_engines.proofs.large.HeldChanges.{put_changes}
use Rattle.hc_engines.proofs.large_laws.put_changes_held.Goals as goal

pub returns : goal.returns
returns c = put_changes
