use Rattle.std.proofs.Common.{◌≡◌, ◌++◌, subst}
use Rattle.std.specs.Prelude.{option_map, IfOk}
use Rattle.hc_engines.specs.large.Block.{Reading}
use Rattle.hc_engines.specs.Seen.{answer_of}
use Rattle.hc_block.specs.Large.{Large}
use Rattle.hc_block.specs.Works.{reading_at}
use Rattle.hc_block.specs.Reads.{came_by}
use Rattle.hc_block.proofs.block_cache.BlockCache.last_came.Goals as goal

pub returns : goal.returns
returns g c =
    subst (λ (x : Large). IfOk c.came_with.result (λ came. option_map answer_of came ≡ came_by x.flash (reading_at c.args.number x.block.jobs).key (reading_at c.args.number x.block.jobs).place ((reading_at c.args.number x.block.jobs).got ++ c.args.page.now) (reading_at c.args.number x.block.jobs).rest x.block.index)) c.self.view_is
    (subst (λ (rd : Reading). IfOk c.came_with.result (λ came. option_map answer_of came ≡ came_by c.self.inside.flash rd.key rd.place (rd.got ++ c.args.page.now) rd.rest c.self.inside.index)) c.reading.ensures c.came_with.ensures)
