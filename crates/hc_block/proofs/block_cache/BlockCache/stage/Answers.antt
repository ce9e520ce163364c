use Rattle.std.proofs.Common.{◌∙◌, sym, ap, subst}
use Rattle.hc_engines.specs.large.Region.{region_at}
use Rattle.hc_engines.specs.large.Block.{Block}
use Rattle.hc_block.specs.Large.{Large}
use Rattle.hc_region.specs.Stages.{stage_of}
use Rattle.hc_block.specs.Settling.{CanSettle, IsWriting}
use Rattle.hc_region.specs.declared.status.Stage.{Stage}
use Rattle.hc_block.proofs.Going.{written_fits}
use Rattle.hc_block.proofs.Settling.{can_settle}
use Rattle.hc_block.proofs.block_cache.BlockCache.stage.Goals as goal

pub stage_at-requires-clause-there : goal.stage_at-requires-clause-there
stage_at-requires-clause-there g c =
    let s : Block = record { regions = c.self.inside.regions.items; current = c.self.inside.current; sealed = c.self.inside.sealed.items; flushed = c.self.inside.flushed.items; index = c.self.inside.index; jobs = c.self.inside.jobs } in
    let w = subst (λ (x : Large). IsWriting c.args.number c.args.r x.block) (sym c.self.view_is) c.requires in
    rw c.deref.ensures.value (can_settle c.self.inside.flash c.args.number c.args.r s c.self.invariant.0 w).there

pub stage_at-requires-clause-written : goal.stage_at-requires-clause-written
stage_at-requires-clause-written g c =
    let s : Block = record { regions = c.self.inside.regions.items; current = c.self.inside.current; sealed = c.self.inside.sealed.items; flushed = c.self.inside.flushed.items; index = c.self.inside.index; jobs = c.self.inside.jobs } in
    rw c.deref.ensures.value (written_fits c.self.inside.flash s c.args.r c.self.invariant.0)

pub returns-clause-can : goal.returns-clause-can
returns-clause-can g c =
    let s : Block = record { regions = c.self.inside.regions.items; current = c.self.inside.current; sealed = c.self.inside.sealed.items; flushed = c.self.inside.flushed.items; index = c.self.inside.index; jobs = c.self.inside.jobs } in
    let w = subst (λ (x : Large). IsWriting c.args.number c.args.r x.block) (sym c.self.view_is) c.requires in
    let is = c.stage_at.ensures ∙ ap (λ rs. stage_of c.self.inside.flash (region_at c.args.r rs)) c.deref.ensures.value in
    subst (λ (x : Large). CanSettle x.flash c.args.number c.args.r c.stage_at.result x.block) c.self.view_is
    (subst (λ (stage : Stage). CanSettle c.self.inside.flash c.args.number c.args.r stage s) (sym is) (can_settle c.self.inside.flash c.args.number c.args.r s c.self.invariant.0 w))
