use Rattle.std.proofs.Common.{◌≡◌, subst}
use Rattle.std.specs.Prelude.{option_map, IfOk}
use Rattle.hc_engines.specs.Seen.{answer_of}
use Rattle.hc_block.specs.Large.{Large}
use Rattle.hc_block.specs.Reads.{came_by}
use Rattle.hc_block.proofs.block_cache.BlockCache.came_now.Goals as goal

pub returns : goal.returns
returns g c = subst (λ (x : Large). IfOk c.came.result (λ came. option_map answer_of came ≡ came_by x.flash c.args.reading.key c.args.reading.place c.args.reading.got c.args.reading.rest x.block.index)) c.self.view_is c.came.ensures
