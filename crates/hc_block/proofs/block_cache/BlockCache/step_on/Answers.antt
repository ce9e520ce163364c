use Rattle.std.proofs.Common.{◌∙◌, ap, Some, []}
use Rattle.hc_engines.specs.large.Block.{Moved}
use Rattle.hc_block.proofs.block_cache.BlockCache.step_on.Goals as goal

pub returns-in-Ok-clause-ok : goal.returns-in-Ok-clause-ok
returns-in-Ok-clause-ok g c = c.in-Written.ensures.1 ∙ ap (λ (m : Moved). Some m) (c.in-Ok.ensures.ok [])

pub returns-in-Ok-write_failed-clause-ok : goal.returns-in-Ok-write_failed-clause-ok
returns-in-Ok-write_failed-clause-ok g c = c.in-WriteFailed.ensures.1 ∙ ap (λ (m : Moved). Some m) (c.in-Ok-write_failed.ensures.ok [])
