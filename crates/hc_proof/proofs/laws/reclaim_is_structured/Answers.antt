use Rattle.hc_proof.proofs.structure.Workers as by
use Rattle.hc_proof.proofs.laws.reclaim_is_structured.Goals as goal

pub returns : goal.returns
returns c = by.reclaims
