use Rattle.hc_proof.proofs.structure.Calls as by
use Rattle.hc_proof.proofs.laws.find_is_structured.Goals as goal

pub returns : goal.returns
returns c = by.finds
