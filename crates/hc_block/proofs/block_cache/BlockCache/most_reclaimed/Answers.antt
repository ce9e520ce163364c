use Rattle.std.proofs.Common.{◌≡◌, ◌∙◌, ◌≤◌, List, ap, subst, sym, length, Some}
use Rattle.hc_engines.specs.large.Block.{Block}
use Rattle.hc_engines.specs.large.Choices.{reclaim_next}
use Rattle.hc_engines.specs.large.Region.{Appended, region_at}
use Rattle.hc_engines.specs.large.Steps.{reclaim}
use Rattle.hc_block.specs.Large.{Large}
use Rattle.hc_block.proofs.Peeks.{reclaim_loses}
use Rattle.hc_block.proofs.block_cache.BlockCache.most_reclaimed.Goals as goal

pub returns-in-Some : goal.returns-in-Some
returns-in-Some g c =
    let s : Block = record { regions = c.self.inside.regions.items; current = c.self.inside.current; sealed = c.self.inside.sealed.items; flushed = c.self.inside.flushed.items; index = c.self.inside.index; jobs = c.self.inside.jobs } in
    let next : reclaim_next c.self.inside.flash s ≡ Some c.in-Some.r = rw (← c.self.view_is) at (sym c.in-Some.ensures.value) in
    let all = c.appended_at.ensures ∙ ap (λ rs. (region_at c.in-Some.r rs).appended) c.deref.ensures.value in
    subst (λ (x : Large). length (reclaim x.flash x.block).outcome.losses ≤ length c.appended_at.result.now) c.self.view_is
    (subst (λ (xs : List Appended). length (reclaim c.self.inside.flash s).outcome.losses ≤ length xs) (sym all) (reclaim_loses c.self.inside.flash s c.in-Some.r next))
