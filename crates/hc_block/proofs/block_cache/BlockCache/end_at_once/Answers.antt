use Rattle.std.proofs.Common.{sym, subst, List}
use Rattle.hc_engines.specs.large.Index.{Indexed}
use Rattle.hc_engines.specs.large.Block.{Block}
use Rattle.hc_block.specs.Large.{Kept}
use Rattle.hc_block.proofs.Leaving.{lost_kept}
use Rattle.hc_block.proofs.block_cache.BlockCache.end_at_once.Goals as goal

pub invariant_of-self : goal.invariant_of-self
invariant_of-self g c =
    let s : Block = record { regions = c.self.inside.regions.items; current = c.self.inside.current; sealed = c.self.inside.sealed.items; flushed = c.self.inside.flushed.items; index = c.self.inside.index; jobs = c.self.inside.jobs } in (
      subst (λ (ix : List Indexed). Kept c.self.inside.flash (record s { index = ix })) (sym c.leave_index.ensures) (lost_kept c.self.inside.flash c.rest.inside.lost s c.self.invariant.0),
      c.self.invariant.1,
    )
