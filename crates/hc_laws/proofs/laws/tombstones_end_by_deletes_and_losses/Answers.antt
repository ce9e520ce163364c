use Rattle.hc_laws.proofs.Ended.{raises}
use Rattle.hc_laws.proofs.laws.tombstones_end_by_deletes_and_losses.Goals as goal

pub returns : goal.returns
returns c = raises
