use Rattle.std.proofs.Common.{sym, subst, List, None}
use Rattle.hc_engines.specs.large.Index.{Indexed}
use Rattle.hc_engines.specs.large.Block.{Block}
use Rattle.hc_block.specs.Large.{Kept}
use Rattle.hc_block.proofs.Leaving.{take_kept}
use Rattle.hc_block.proofs.block_cache.BlockCache.take_index.Goals as goal

pub invariant_of-self : goal.invariant_of-self
invariant_of-self g c =
    let s : Block = record { regions = c.self.inside.regions.items; current = c.self.inside.current; sealed = c.self.inside.sealed.items; flushed = c.self.inside.flushed.items; index = c.self.inside.index; jobs = c.self.inside.jobs } in (
      subst (λ (ix : List Indexed). Kept c.self.inside.flash (record s { index = ix })) (sym c.remove.ensures) (take_kept c.self.inside.flash c.args.hash None s c.self.invariant.0),
      c.self.invariant.1,
    )
