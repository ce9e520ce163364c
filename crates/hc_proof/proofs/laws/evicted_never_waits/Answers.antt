use Rattle.hc_proof.proofs.structure.Rooms as by
use Rattle.hc_proof.proofs.laws.evicted_never_waits.Goals as goal

pub returns : goal.returns
returns c = by.evicted_waits
