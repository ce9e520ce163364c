use Rattle.std.proofs.Common.{◌≡◌, None, length, sym, subst}
use Rattle.hc_block.specs.Large.{Large}
use Rattle.hc_block.specs.Resting.{block_at, misfit, LeadsWell}
use Rattle.hc_block.proofs.Quiet.{no_job, kept_fits}
use Rattle.hc_block.proofs.block_cache.BlockCache.into_parts.Goals as goal

pub returns-clause-parts : goal.returns-clause-parts
returns-clause-parts g c =
    let idle = subst (λ (x : Large). length x.block.jobs ≡ 0) (sym c.self.view_is) c.requires in
    subst (λ (x : Large). block_at c.self.inside.regions.items c.self.inside.current c.self.inside.sealed.items c.self.inside.flushed.items c.self.inside.index ≡ x.block) c.self.view_is
    (λ i. record { regions = c.self.inside.regions.items; current = c.self.inside.current; sealed = c.self.inside.sealed.items; flushed = c.self.inside.flushed.items; index = c.self.inside.index; jobs = sym (no_job c.self.inside.jobs idle) i })

pub returns-clause-fit : goal.returns-clause-fit
returns-clause-fit g c =
    let idle = subst (λ (x : Large). length x.block.jobs ≡ 0) (sym c.self.view_is) c.requires in
    subst (λ (x : Large). LeadsWell x.flash x.block → misfit x.flash x.block ≡ None) c.self.view_is (λ led. kept_fits c.self.inside.flash _ c.self.invariant.0 idle c.in_order.ensures led)
