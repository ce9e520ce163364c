use Rattle.std.proofs.Common.{◌≡◌, subst}
use Rattle.std.specs.Prelude.{option_map}
use Rattle.hc_engines.specs.large.Block.{Reading}
use Rattle.hc_engines.specs.Seen.{answer_of}
use Rattle.hc_block.specs.Large.{Large}
use Rattle.hc_block.specs.Works.{reading_at}
use Rattle.hc_block.specs.Reads.{came_failed}
use Rattle.hc_block.proofs.block_cache.BlockCache.failed_came.Goals as goal

pub returns : goal.returns
returns g c =
    subst (λ (x : Large). option_map answer_of c.came_failed.result ≡ came_failed x.flash (reading_at c.args.number x.block.jobs).key (reading_at c.args.number x.block.jobs).place x.block.index) c.self.view_is
    (subst (λ (rd : Reading). option_map answer_of c.came_failed.result ≡ came_failed c.self.inside.flash rd.key rd.place c.self.inside.index) c.reading.ensures c.came_failed.ensures)
