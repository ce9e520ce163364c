use Rattle.std.proofs.Common.{ap, ◌∙◌}
use Rattle.hc_block.specs.Indexes.{pairs_of}
use Rattle.hc_block.proofs.Pairs.{remove-is}
use Rattle.hc_block.proofs.segment.Segment.remove.Goals as goal

pub returns : goal.returns
returns g c = rw (← c.self.view_is) (ap pairs_of c.remove.ensures.entries ∙ remove-is c.args.hash c.self.inside.map.entries c.len-len.ensures.ordered)
