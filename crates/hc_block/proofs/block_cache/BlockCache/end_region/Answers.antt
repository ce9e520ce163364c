use Rattle.std.proofs.Common.{◌≡◌, ◌∙◌, refl, sym, ap, subst, set, List}
use Rattle.hc_engines.specs.large.Region.{region_at}
use Rattle.hc_engines.specs.large.Block.{Block, Job, Moved, finished}
use Rattle.hc_engines.specs.large.Steps.{emptied, end_region}
use Rattle.hc_region.specs.CleanNumbers.{clean_from}
use Rattle.hc_block.specs.Large.{Large, Kept}
use Rattle.hc_block.specs.Ends.{CanEnd, cause_seen, jobs_left, left_by}
use Rattle.hc_block.proofs.RegionEnds.{ended_is}
use Rattle.std.proofs.lemmas.Result.{IfOk-from_err, MatchResult-from_err}
use Rattle.hc_block.proofs.block_cache.BlockCache.end_region.Goals as goal

pub add_emptied-requires-clause-in_use : goal.add_emptied-requires-clause-in_use
add_emptied-requires-clause-in_use g c = rw c.deref-2.ensures.value ((subst (λ (x : Large). CanEnd x.flash (cause_seen c.args.end) c.args.r (left_by c.args.job x.block)) (sym c.self.view_is) c.requires).in_use)

pub add_emptied-requires-clause-clean : goal.add_emptied-requires-clause-clean
add_emptied-requires-clause-clean g c = rw c.deref-2.ensures.value c.self.invariant.1

pub take_sealed_out-requires-clause-distinct : goal.take_sealed_out-requires-clause-distinct
take_sealed_out-requires-clause-distinct g c = c.self.invariant.0.sealed_once

pub take_sealed_out-requires-clause-listed : goal.take_sealed_out-requires-clause-listed
take_sealed_out-requires-clause-listed g c = rw c.deref-4.ensures.value (c.self.invariant.0.sound.sealed c.args.r)

pub leave_flushed-requires : goal.leave_flushed-requires
leave_flushed-requires g c = c.self.invariant.0.flushed_once

pub invariant_of-self-2 : goal.invariant_of-self-2
invariant_of-self-2 g c =
    let s : Block = record { regions = c.self.inside.regions.items; current = c.self.inside.current; sealed = c.self.inside.sealed.items; flushed = c.self.inside.flushed.items; index = c.self.inside.index; jobs = jobs_left c.args.job c.self.inside.jobs } in
    let kept = subst (λ (x : Large). CanEnd x.flash (cause_seen c.args.end) c.args.r (left_by c.args.job x.block)) (sym c.self.view_is) c.requires in
    let new = ended_is (cause_seen c.args.end) s c.args.r c.appended_at.result.now c.in_ok-losses.losses.items c.drain_index.new.losses.items c.empty_at-cleared.new.regions.items c.not_current-self-inside.result c.take_sealed_out.new.sealed.items c.leave_flushed.new.flushed.items c.drain_index.new.index c.empty_at-cleared.result c.ended.result
    (c.appended_at.ensures ∙ ap (λ rs. (region_at c.args.r rs).appended) c.deref-3.ensures.value) c.in_ok-losses.ensures.items c.drain_index.ensures.losses c.drain_index.ensures.index c.empty_at-cleared.ensures.regions c.empty_at-cleared.ensures.cleared c.not_current-self-inside.ensures c.take_sealed_out.ensures c.leave_flushed.ensures c.ended.ensures in (
      subst (λ (js : List Job). Kept c.self.inside.flash (record { regions = c.empty_at-cleared.new.regions.items; current = c.not_current-self-inside.result; sealed = c.take_sealed_out.new.sealed.items; flushed = c.leave_flushed.new.flushed.items; index = c.drain_index.new.index; jobs = js })) (sym c.leave_jobs.ensures) (subst (λ (m : Moved). Kept c.self.inside.flash m.state) new kept.kept),
      c.in_ok-add_emptied.ensures.ok ∙ ap (λ rs. clean_from 0 (set rs c.args.r (emptied (region_at c.args.r rs)))) c.deref-2.ensures.value ∙ sym (ap (clean_from 0) c.empty_at-cleared.ensures.regions),
    )

pub returns-clause-ok : goal.returns-clause-ok
returns-clause-ok g c =
    let s : Block = record { regions = c.self.inside.regions.items; current = c.self.inside.current; sealed = c.self.inside.sealed.items; flushed = c.self.inside.flushed.items; index = c.self.inside.index; jobs = jobs_left c.args.job c.self.inside.jobs } in
    let new = ended_is (cause_seen c.args.end) s c.args.r c.appended_at.result.now c.in_ok-losses.losses.items c.drain_index.new.losses.items c.empty_at-cleared.new.regions.items c.not_current-self-inside.result c.take_sealed_out.new.sealed.items c.leave_flushed.new.flushed.items c.drain_index.new.index c.empty_at-cleared.result c.ended.result
    (c.appended_at.ensures ∙ ap (λ rs. (region_at c.args.r rs).appended) c.deref-3.ensures.value) c.in_ok-losses.ensures.items c.drain_index.ensures.losses c.drain_index.ensures.index c.empty_at-cleared.ensures.regions c.empty_at-cleared.ensures.cleared c.not_current-self-inside.ensures c.take_sealed_out.ensures c.leave_flushed.ensures c.ended.ensures in
    subst (λ (x : Large). end_region (cause_seen c.args.end) c.args.r (left_by c.args.job x.block) ≡ finished (record { regions = c.empty_at-cleared.new.regions.items; current = c.not_current-self-inside.result; sealed = c.take_sealed_out.new.sealed.items; flushed = c.leave_flushed.new.flushed.items; index = c.drain_index.new.index; jobs = c.leave_jobs.new.jobs }) c.ended.result) c.self.view_is
    (subst (λ (js : List Job). end_region (cause_seen c.args.end) c.args.r s ≡ finished (record { regions = c.empty_at-cleared.new.regions.items; current = c.not_current-self-inside.result; sealed = c.take_sealed_out.new.sealed.items; flushed = c.leave_flushed.new.flushed.items; index = c.drain_index.new.index; jobs = js }) c.ended.result) (sym c.leave_jobs.ensures) new)

pub add_emptied-requires-clause-there : goal.add_emptied-requires-clause-there
add_emptied-requires-clause-there g c = rw c.deref-2.ensures.value (subst (λ (x : Large). CanEnd x.flash (cause_seen c.args.end) c.args.r (left_by c.args.job x.block)) (sym c.self.view_is) c.requires).there

pub invariant_of-self : goal.invariant_of-self
invariant_of-self g c = (c.self.invariant.0, c.in_err-add_emptied.ensures.err ∙ c.self.invariant.1)

pub returns-clause-err : goal.returns-clause-err
returns-clause-err g c = tt

pub returns-clause-flash : goal.returns-clause-flash
returns-clause-flash g c = ap (λ (x : Large). x.flash) c.self.view_is

pub returns-in_err-add_emptied-clause-err : goal.returns-in_err-add_emptied-clause-err
returns-in_err-add_emptied-clause-err g c = MatchResult-from_err c.from_residual-in_err-add_emptied.result _ _ c.from_residual-in_err-add_emptied.ensures.0 (λ _. c.self.view_is)

pub returns-in_err-add_emptied-clause-flash : goal.returns-in_err-add_emptied-clause-flash
returns-in_err-add_emptied-clause-flash g c = ap (λ (x : Large). x.flash) c.self.view_is

pub returns-in_err-add_emptied-clause-ok : goal.returns-in_err-add_emptied-clause-ok
returns-in_err-add_emptied-clause-ok g c = IfOk-from_err c.from_residual-in_err-add_emptied.result _ c.from_residual-in_err-add_emptied.ensures.0

pub returns-in_err-losses-clause-err : goal.returns-in_err-losses-clause-err
returns-in_err-losses-clause-err g c = MatchResult-from_err c.from_residual.result _ _ c.from_residual.ensures.0 (λ _. refl)

pub returns-in_err-losses-clause-flash : goal.returns-in_err-losses-clause-flash
returns-in_err-losses-clause-flash g c = refl

pub returns-in_err-losses-clause-ok : goal.returns-in_err-losses-clause-ok
returns-in_err-losses-clause-ok g c = IfOk-from_err c.from_residual.result _ c.from_residual.ensures.0

pub take_sealed_out-requires-clause-there : goal.take_sealed_out-requires-clause-there
take_sealed_out-requires-clause-there g c = rw c.deref-4.ensures.value (subst (λ (x : Large). CanEnd x.flash (cause_seen c.args.end) c.args.r (left_by c.args.job x.block)) (sym c.self.view_is) c.requires).there
