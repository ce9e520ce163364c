use Rattle.std.proofs.Common.{◌≤◌, arith}
use Rattle.hc_engines.specs.large.Region.{filled_to, region_at}
use Rattle.hc_block.proofs.Keeping.{current_there, filled_small}
use Rattle.hc_block.proofs.block_cache.BlockCache.fitting.Goals as goal

pub if_fits-requires-clause-there : goal.if_fits-requires-clause-there
if_fits-requires-clause-there g c = rw c.deref.ensures.value (current_there c.self.inside.flash _ c.in-Some.r c.self.invariant.0 c.in-Some.is)

pub if_fits-requires-clause-small : goal.if_fits-requires-clause-small
if_fits-requires-clause-small g c =
    let small : filled_to c.self.inside.flash (region_at c.in-Some.r c.self.inside.regions.items) ≤ 16777216 = filled_small c.self.inside.flash _ c.in-Some.r c.self.invariant.0 in
    rw c.deref.ensures.value (omega (arith, small))
