use Rattle.hc_proof.proofs.structure.Serving as by
use Rattle.hc_proof.proofs.laws.waiting_adds_are_open.Goals as goal

pub returns : goal.returns
returns c = by.waiting_open
