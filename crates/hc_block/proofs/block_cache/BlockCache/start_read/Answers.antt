use Rattle.std.proofs.Common.{◌≡◌, ◌∙◌, ◌+◌, Some, ap, refl, sym, subst, arith}
use Rattle.hc_engines.specs.large.Region.{region_at}
use Rattle.hc_engines.specs.large.Block.{Block, Moved}
use Rattle.hc_region.proofs.Cleans.{changed_is}
use Rattle.hc_block.specs.Large.{Large, Kept}
use Rattle.hc_block.specs.Reads.{CanRead}
use Rattle.hc_block.proofs.Leaving.{began_is}
use Rattle.std.proofs.lemmas.Result.{IfOk-from_err, MatchResult-from_err}
use Rattle.hc_engines.specs.Engine.{Read, nothing}
use Rattle.hc_engines.specs.large.Steps.{read_next, pinned}
use Rattle.hc_block.proofs.block_cache.BlockCache.start_read.Goals as goal

pub page-page-requires-clause-region : goal.page-page-requires-clause-region
page-page-requires-clause-region g c =
    let can = subst (λ (x : Large). CanRead x.flash c.args.number c.args.reading x.block) (sym c.self.view_is) c.requires in
    omega (arith, can.there, c.self.invariant.0.count, c.self.invariant.0.limits.regions)

pub invariant_of-self-2 : goal.invariant_of-self-2
invariant_of-self-2 g c =
    let s : Block = record { regions = c.self.inside.regions.items; current = c.self.inside.current; sealed = c.self.inside.sealed.items; flushed = c.self.inside.flushed.items; index = c.self.inside.index; jobs = c.self.inside.jobs } in
    let can = subst (λ (x : Large). CanRead x.flash c.args.number c.args.reading x.block) (sym c.self.view_is) c.requires in
    let new = began_is c.self.inside.flash c.args.number c.args.reading s c.start_in.new.regions.items c.start_in.new.jobs c.page-page.result c.in_ok-start_in.ensures.regions c.in_ok-start_in.ensures.jobs c.page-page.ensures in (
      subst (λ (m : Moved). Kept c.self.inside.flash m.state) new can.kept,
      changed_is c.args.reading.place.region s.regions c.start_in.new.regions.items (record (region_at c.args.reading.place.region s.regions) { pins = (region_at c.args.reading.place.region s.regions).pins + 1 }) c.self.inside.clean refl c.self.invariant.1 c.in_ok-start_in.ensures.regions,
    )

pub start_in-requires-clause-free : goal.start_in-requires-clause-free
start_in-requires-clause-free g c = (subst (λ (x : Large). CanRead x.flash c.args.number c.args.reading x.block) (sym c.self.view_is) c.requires).free

pub invariant_of-self : goal.invariant_of-self
invariant_of-self g c = rw (c.in_err-start_in.ensures.err_regions, c.in_err-start_in.ensures.err_jobs) c.self.invariant

pub page-page-requires-clause-buckets : goal.page-page-requires-clause-buckets
page-page-requires-clause-buckets g c = c.self.invariant.0.limits.buckets

pub page-page-requires-clause-region_pages : goal.page-page-requires-clause-region_pages
page-page-requires-clause-region_pages g c = c.self.invariant.0.limits.most_pages

pub page-page-requires-clause-small : goal.page-page-requires-clause-small
page-page-requires-clause-small g c = c.requires.next

pub returns-clause-err : goal.returns-clause-err
returns-clause-err g c = tt

pub returns-clause-flash : goal.returns-clause-flash
returns-clause-flash g c = ap (λ (x : Large). x.flash) c.self.view_is

pub returns-clause-ok : goal.returns-clause-ok
returns-clause-ok g c =
    let s : Block = record { regions = c.self.inside.regions.items; current = c.self.inside.current; sealed = c.self.inside.sealed.items; flushed = c.self.inside.flushed.items; index = c.self.inside.index; jobs = c.self.inside.jobs } in
    let u : Block = record s { regions = c.start_in.new.regions.items; jobs = c.start_in.new.jobs } in
    subst (λ (x : Large). read_next x.flash c.args.number c.args.reading (pinned c.args.reading.place.region x.block) ≡ record { state = u; outcome = nothing; order = Some (Read c.page-page.result) }) c.self.view_is
    (began_is c.self.inside.flash c.args.number c.args.reading s c.start_in.new.regions.items c.start_in.new.jobs c.page-page.result c.in_ok-start_in.ensures.regions c.in_ok-start_in.ensures.jobs c.page-page.ensures)

pub returns-in_err-start_in-clause-err : goal.returns-in_err-start_in-clause-err
returns-in_err-start_in-clause-err g c =
    let s : Block = record { regions = c.self.inside.regions.items; current = c.self.inside.current; sealed = c.self.inside.sealed.items; flushed = c.self.inside.flushed.items; index = c.self.inside.index; jobs = c.self.inside.jobs } in
    let u : Block = record s { regions = c.start_in.new.regions.items; jobs = c.start_in.new.jobs } in
    let same : u ≡ s = rw (c.in_err-start_in.ensures.err_regions, c.in_err-start_in.ensures.err_jobs) refl in
    let large : Block → Large = λ b. record { flash = c.self.inside.flash; block = b } in
    MatchResult-from_err c.from_residual.result _ _ c.from_residual.ensures.0 (λ _. ap large same ∙ c.self.view_is)

pub returns-in_err-start_in-clause-flash : goal.returns-in_err-start_in-clause-flash
returns-in_err-start_in-clause-flash g c = ap (λ (x : Large). x.flash) c.self.view_is

pub returns-in_err-start_in-clause-ok : goal.returns-in_err-start_in-clause-ok
returns-in_err-start_in-clause-ok g c = IfOk-from_err c.from_residual.result _ c.from_residual.ensures.0

pub start_in-requires-clause-pins : goal.start_in-requires-clause-pins
start_in-requires-clause-pins g c = (subst (λ (x : Large). CanRead x.flash c.args.number c.args.reading x.block) (sym c.self.view_is) c.requires).pins

pub start_in-requires-clause-there : goal.start_in-requires-clause-there
start_in-requires-clause-there g c = (subst (λ (x : Large). CanRead x.flash c.args.number c.args.reading x.block) (sym c.self.view_is) c.requires).there
