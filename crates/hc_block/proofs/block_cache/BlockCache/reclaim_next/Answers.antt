use Rattle.std.proofs.Common.{◌≡◌, ◌∙◌, sym, ap, subst, None}
use Rattle.std.specs.Prelude.{IfSome, nat_lt, if◌then◌else◌}
use Rattle.hc_types.specs.Loss.{Reclaimed}
use Rattle.hc_engines.specs.large.Block.{Block}
use Rattle.hc_engines.specs.large.Steps.{clean_count, oldest}
use Rattle.hc_block.specs.Large.{Large}
use Rattle.hc_block.specs.Ends.{CanEnd}
use Rattle.hc_engines.specs.large.Choices.{reclaim_next}
use Rattle.hc_block.proofs.RegionEnds.{all_there, all_can_end}
use Rattle.hc_block.proofs.block_cache.BlockCache.reclaim_next.Goals as goal

pub oldest_if-requires-clause-there : goal.oldest_if-requires-clause-there
oldest_if-requires-clause-there g c = rw c.deref.ensures.value (all_there c.self.inside.regions.items c.self.inside.flushed.items c.self.invariant.0.sound.flushed)

pub oldest_if-requires-clause-clean : goal.oldest_if-requires-clause-clean
oldest_if-requires-clause-clean g c = rw c.deref.ensures.value c.self.invariant.1

pub returns-clause-ends : goal.returns-clause-ends
returns-clause-ends g c =
    let s : Block = record { regions = c.self.inside.regions.items; current = c.self.inside.current; sealed = c.self.inside.sealed.items; flushed = c.self.inside.flushed.items; index = c.self.inside.index; jobs = c.self.inside.jobs } in
    let next : c.oldest_if.result ≡ reclaim_next c.self.inside.flash s =
    c.oldest_if.ensures ∙ ap (λ rs. if nat_lt (clean_count rs) c.self.inside.flash.clean then oldest rs c.self.inside.flushed.items else None) c.deref.ensures.value in
    subst (λ (x : Large). IfSome c.oldest_if.result (λ r. CanEnd x.flash (Reclaimed r) r x.block)) c.self.view_is (all_can_end c.self.inside.flash s c.oldest_if.result c.self.invariant.0 (sym next))
