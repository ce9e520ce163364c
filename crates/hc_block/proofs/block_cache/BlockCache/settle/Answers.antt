use Rattle.std.proofs.Common.{refl, ◌≡◌, ◌∙◌, sym, ap, subst}
use Rattle.hc_engines.specs.large.Region.{region_at}
use Rattle.hc_engines.specs.large.Block.{Block, end_job}
use Rattle.hc_block.specs.Large.{Large, Kept}
use Rattle.hc_block.specs.Settling.{settled_in, flushed_at, CanSettle}
use Rattle.hc_block.proofs.Going.{written_fits}
use Rattle.hc_block.proofs.Settling.{settled_in_is, settled_clean}
use Rattle.hc_region.specs.Stages.{settled}
use Rattle.hc_region.proofs.Cleans.{changed_is}
use Rattle.std.proofs.lemmas.Result.{IfOk-from_err, MatchResult-from_err}
use Rattle.hc_block.proofs.block_cache.BlockCache.settle.Goals as goal

pub settle_at-requires-clause-there : goal.settle_at-requires-clause-there
settle_at-requires-clause-there g c = (subst (λ (x : Large). CanSettle x.flash c.args.number c.args.r c.args.stage x.block) (sym c.self.view_is) c.requires.can).there

pub settle_at-requires-clause-written : goal.settle_at-requires-clause-written
settle_at-requires-clause-written g c =
    let s : Block = record { regions = c.self.inside.regions.items; current = c.self.inside.current; sealed = c.self.inside.sealed.items; flushed = c.self.inside.flushed.items; index = c.self.inside.index; jobs = c.self.inside.jobs } in
    written_fits c.self.inside.flash s c.args.r c.self.invariant.0

pub invariant_of-self-2 : goal.invariant_of-self-2
invariant_of-self-2 g c =
    let s : Block = record { regions = c.self.inside.regions.items; current = c.self.inside.current; sealed = c.self.inside.sealed.items; flushed = c.self.inside.flushed.items; index = c.self.inside.index; jobs = c.self.inside.jobs } in
    let can = subst (λ (x : Large). CanSettle x.flash c.args.number c.args.r c.args.stage x.block) (sym c.self.view_is) c.requires.can in
    let kept = subst (λ (x : Large). Kept x.flash (settled_in x.flash c.args.r c.args.stage (end_job c.args.number x.block))) (sym c.self.view_is) c.requires.kept in
    let new = settled_in_is c.self.inside.flash c.args.number c.args.r c.args.stage s c.settle_at.new.regions.items c.add_flushed.new.flushed.items c.remove.new.self c.settle_at.ensures (c.add_flushed.ensures ∙ ap (flushed_at c.args.stage c.args.r) c.in_ok-reserve.ensures.items) c.remove.ensures in (
      subst (λ (t : Block). Kept c.self.inside.flash t) new kept,
      changed_is c.args.r s.regions c.settle_at.new.regions.items (settled c.self.inside.flash c.args.stage (region_at c.args.r s.regions)) c.self.inside.clean (settled_clean c.self.inside.flash c.args.stage (region_at c.args.r s.regions) can.in_use) c.self.invariant.1 c.settle_at.ensures,
    )

pub returns-clause-ok : goal.returns-clause-ok
returns-clause-ok g c =
    let s : Block = record { regions = c.self.inside.regions.items; current = c.self.inside.current; sealed = c.self.inside.sealed.items; flushed = c.self.inside.flushed.items; index = c.self.inside.index; jobs = c.self.inside.jobs } in
    let u : Block = record s { regions = c.settle_at.new.regions.items; flushed = c.add_flushed.new.flushed.items; jobs = c.remove.new.self } in
    let can = subst (λ (x : Large). CanSettle x.flash c.args.number c.args.r c.args.stage x.block) (sym c.self.view_is) c.requires.can in
    let new = settled_in_is c.self.inside.flash c.args.number c.args.r c.args.stage s c.settle_at.new.regions.items c.add_flushed.new.flushed.items c.remove.new.self c.settle_at.ensures (c.add_flushed.ensures ∙ ap (flushed_at c.args.stage c.args.r) c.in_ok-reserve.ensures.items) c.remove.ensures in
    subst (λ (x : Large). settled_in x.flash c.args.r c.args.stage (end_job c.args.number x.block) ≡ u) c.self.view_is new

pub invariant_of-self : goal.invariant_of-self
invariant_of-self g c = rw c.in_err-reserve.ensures.items c.self.invariant

pub returns-clause-err : goal.returns-clause-err
returns-clause-err g c = tt

pub returns-clause-flash : goal.returns-clause-flash
returns-clause-flash g c = ap (λ (x : Large). x.flash) c.self.view_is

pub returns-in_err-reserve-clause-err : goal.returns-in_err-reserve-clause-err
returns-in_err-reserve-clause-err g c =
    let s : Block = record { regions = c.self.inside.regions.items; current = c.self.inside.current; sealed = c.self.inside.sealed.items; flushed = c.self.inside.flushed.items; index = c.self.inside.index; jobs = c.self.inside.jobs } in
    let u : Block = record s { flushed = c.reserve.new.self.items } in
    let same : u ≡ s = rw c.in_err-reserve.ensures.items refl in
    let large : Block → Large = λ b. record { flash = c.self.inside.flash; block = b } in
    MatchResult-from_err c.from_residual.result _ _ c.from_residual.ensures.0 (λ _. ap large same ∙ c.self.view_is)

pub returns-in_err-reserve-clause-flash : goal.returns-in_err-reserve-clause-flash
returns-in_err-reserve-clause-flash g c = ap (λ (x : Large). x.flash) c.self.view_is

pub returns-in_err-reserve-clause-ok : goal.returns-in_err-reserve-clause-ok
returns-in_err-reserve-clause-ok g c = IfOk-from_err c.from_residual.result _ c.from_residual.ensures.0

pub settle_at-requires-clause-page : goal.settle_at-requires-clause-page
settle_at-requires-clause-page g c = c.self.invariant.0.limits.most_page
