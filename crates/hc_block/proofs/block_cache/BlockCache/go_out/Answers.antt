use Rattle.std.proofs.Common.{◌∙◌, refl, ap, ◌≡◌, sym, subst, arith, Some}
use Rattle.hc_engines.specs.large.Region.{region_at}
use Rattle.hc_engines.specs.large.Block.{Block, Moved}
use Rattle.hc_engines.specs.Engine.{nothing}
use Rattle.hc_engines.specs.Seen.{order_of}
use Rattle.hc_block.specs.Large.{Large, Kept}
use Rattle.hc_engines.specs.large.Choices.{marked, gone_out}
use Rattle.hc_block.specs.Going.{CanGoOut}
use Rattle.hc_block.proofs.Going.{gone_is, written_small, marked_clean}
use Rattle.hc_region.specs.Stages.{mark_seen}
use Rattle.hc_region.proofs.Cleans.{changed_is}
use Rattle.std.proofs.lemmas.Result.{IfOk-from_err, MatchResult-from_err}
use Rattle.hc_block.proofs.block_cache.BlockCache.go_out.Goals as goal

pub write_out-requires-clause-there : goal.write_out-requires-clause-there
write_out-requires-clause-there g c = (subst (λ (x : Large). CanGoOut x.flash c.args.number c.args.r (mark_seen c.args.mark) x.block) (sym c.self.view_is) c.requires).there

pub write_out-requires-clause-written : goal.write_out-requires-clause-written
write_out-requires-clause-written g c =
    let s : Block = record { regions = c.self.inside.regions.items; current = c.self.inside.current; sealed = c.self.inside.sealed.items; flushed = c.self.inside.flushed.items; index = c.self.inside.index; jobs = c.self.inside.jobs } in
    written_small c.self.inside.flash s c.args.r c.self.invariant.0

pub write_out-requires-clause-few : goal.write_out-requires-clause-few
write_out-requires-clause-few g c = omega (arith, c.self.invariant.0.count, c.self.invariant.0.limits.regions)

pub leave_sealed-requires : goal.leave_sealed-requires
leave_sealed-requires g c = c.self.invariant.0.sealed_once

pub invariant_of-self-2 : goal.invariant_of-self-2
invariant_of-self-2 g c =
    let s : Block = record { regions = c.self.inside.regions.items; current = c.self.inside.current; sealed = c.self.inside.sealed.items; flushed = c.self.inside.flushed.items; index = c.self.inside.index; jobs = c.self.inside.jobs } in
    let can = subst (λ (x : Large). CanGoOut x.flash c.args.number c.args.r (mark_seen c.args.mark) x.block) (sym c.self.view_is) c.requires in
    let new = gone_is c.self.inside.flash c.args.number c.args.r (mark_seen c.args.mark) s c.write_out.new.regions.items c.leave_sealed.new.sealed.items c.write_out.new.jobs (order_of c.in_ok-order.order) c.in_ok-order.ensures.regions c.leave_sealed.ensures c.in_ok-order.ensures.jobs c.in_ok-order.ensures.order in (
      subst (λ (m : Moved). Kept c.self.inside.flash m.state) new can.kept,
      changed_is c.args.r s.regions c.write_out.new.regions.items (marked (mark_seen c.args.mark) (region_at c.args.r s.regions)) c.self.inside.clean (marked_clean (mark_seen c.args.mark) (region_at c.args.r s.regions) can.in_use) c.self.invariant.1 c.in_ok-order.ensures.regions,
    )

pub returns-clause-ok : goal.returns-clause-ok
returns-clause-ok g c =
    let s : Block = record { regions = c.self.inside.regions.items; current = c.self.inside.current; sealed = c.self.inside.sealed.items; flushed = c.self.inside.flushed.items; index = c.self.inside.index; jobs = c.self.inside.jobs } in
    let u : Block = record s { regions = c.write_out.new.regions.items; sealed = c.leave_sealed.new.sealed.items; jobs = c.write_out.new.jobs } in
    let new = gone_is c.self.inside.flash c.args.number c.args.r (mark_seen c.args.mark) s c.write_out.new.regions.items c.leave_sealed.new.sealed.items c.write_out.new.jobs (order_of c.in_ok-order.order) c.in_ok-order.ensures.regions c.leave_sealed.ensures c.in_ok-order.ensures.jobs c.in_ok-order.ensures.order in
    subst (λ (x : Large). gone_out x.flash c.args.number c.args.r (mark_seen c.args.mark) x.block ≡ record { state = u; outcome = nothing; order = Some (order_of c.in_ok-order.order) }) c.self.view_is new

pub write_out-requires-clause-free : goal.write_out-requires-clause-free
write_out-requires-clause-free g c = (subst (λ (x : Large). CanGoOut x.flash c.args.number c.args.r (mark_seen c.args.mark) x.block) (sym c.self.view_is) c.requires).free

pub invariant_of-self : goal.invariant_of-self
invariant_of-self g c = rw (c.in_err-order.ensures.err_regions, c.in_err-order.ensures.err_jobs) c.self.invariant

pub returns-clause-err : goal.returns-clause-err
returns-clause-err g c = tt

pub returns-clause-flash : goal.returns-clause-flash
returns-clause-flash g c = ap (λ (x : Large). x.flash) c.self.view_is

pub returns-in_err-order-clause-err : goal.returns-in_err-order-clause-err
returns-in_err-order-clause-err g c =
    let s : Block = record { regions = c.self.inside.regions.items; current = c.self.inside.current; sealed = c.self.inside.sealed.items; flushed = c.self.inside.flushed.items; index = c.self.inside.index; jobs = c.self.inside.jobs } in
    let u : Block = record s { regions = c.write_out.new.regions.items; jobs = c.write_out.new.jobs } in
    let same : u ≡ s = rw (c.in_err-order.ensures.err_regions, c.in_err-order.ensures.err_jobs) refl in
    let large : Block → Large = λ b. record { flash = c.self.inside.flash; block = b } in
    MatchResult-from_err c.from_residual.result _ _ c.from_residual.ensures.0 (λ _. ap large same ∙ c.self.view_is)

pub returns-in_err-order-clause-flash : goal.returns-in_err-order-clause-flash
returns-in_err-order-clause-flash g c = ap (λ (x : Large). x.flash) c.self.view_is

pub returns-in_err-order-clause-ok : goal.returns-in_err-order-clause-ok
returns-in_err-order-clause-ok g c = IfOk-from_err c.from_residual.result _ c.from_residual.ensures.0

pub write_out-requires-clause-buckets : goal.write_out-requires-clause-buckets
write_out-requires-clause-buckets g c = c.self.invariant.0.limits.buckets

pub write_out-requires-clause-page : goal.write_out-requires-clause-page
write_out-requires-clause-page g c = c.self.invariant.0.limits.most_page

pub write_out-requires-clause-region_pages : goal.write_out-requires-clause-region_pages
write_out-requires-clause-region_pages g c = c.self.invariant.0.limits.most_pages
