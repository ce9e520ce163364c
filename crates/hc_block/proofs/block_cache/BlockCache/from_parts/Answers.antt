use Rattle.std.proofs.Common.{sym, subst}
use Rattle.hc_block.specs.Large.{Large}
use Rattle.hc_block.specs.Resting.{block_at, LeadsWell}
use Rattle.hc_block.proofs.Rested.{rested_leads}
use Rattle.hc_block.proofs.block_cache.BlockCache.from_parts.Goals as goal

pub returns-in-Ok-clause-large : goal.returns-in-Ok-clause-large
returns-in-Ok-clause-large g c =
    subst (λ (large : Large). LeadsWell c.args.flash large.block) (sym c.assembled.ensures)
    (rested_leads c.args.flash (block_at c.args.parts.regions.items c.args.parts.current c.args.parts.sealed.items c.args.parts.flushed.items c.args.parts.index) c.in-Ok.ensures.fit)
