use Rattle.std.proofs.Common.{◌∙◌}
use Rattle.hc_block.proofs.Pairs.{lookup-is}
use Rattle.hc_block.proofs.segment.Segment.get.Goals as goal

pub returns : goal.returns
returns g c = rw (← c.self.view_is) (c.copied.ensures ∙ c.get.ensures.value ∙ lookup-is c.args.hash c.self.inside.map.entries)
