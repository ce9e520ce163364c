use Rattle.hc_shards.proofs.Sharing as by
use Rattle.hc_shards.proofs.laws.parts_are_apart.Goals as goal

pub returns : goal.returns
returns c = by.parts-apart
