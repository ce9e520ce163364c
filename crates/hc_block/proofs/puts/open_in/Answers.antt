use Rattle.std.proofs.Common.{◌∙◌, ap}
use Rattle.hc_engines.specs.large.Region.{lowest_clean}
use Rattle.hc_block.proofs.Keeping.{sealed_lowest}
use Rattle.hc_block.proofs.puts.open_in.Goals as goal

pub open_lowest-requires-clause-lowest : goal.open_lowest-requires-clause-lowest
open_lowest-requires-clause-lowest g c = ap (lowest_clean 0) c.seal_in.ensures.regions ∙ sealed_lowest c.args.current c.args.regions.now.items c.requires.can.current_in_use ∙ c.requires.can.lowest
