use Rattle.std.proofs.Common.{◌∙◌, Some, ap}
use Rattle.hc_engines.specs.large.Block.{Moved}
use Rattle.std.specs.Prelude.{option_map}
use Rattle.hc_engines.specs.Seen.{answer_of}
use Rattle.hc_block.proofs.Leaving.{failed_ends}
use Rattle.hc_block.proofs.block_cache.BlockCache.ending.Goals as goal

pub returns-in_ok-ending-in-ReadFailed : goal.returns-in_ok-ending-in-ReadFailed
returns-in_ok-ending-in-ReadFailed g c =
    let ends = c.in_ok-ending-in-ReadFailed.ensures in (
      ends.can,
      c.in-ReadFailed.ensures.1 ∙ ap (λ (m : Moved). Some m)
          (failed_ends c.args.self.now.flash c.args.number c.args.self.now.block (option_map answer_of c.failed_came.result) c.in_ok-ending-in-ReadFailed.ending c.failed_came.ensures ends),
    )
