use Rattle.hc_laws.proofs.Evicts.{evicts}
use Rattle.hc_laws.proofs.laws.evicted_items_leave_by_the_table.Goals as goal

pub returns : goal.returns
returns c = evicts
