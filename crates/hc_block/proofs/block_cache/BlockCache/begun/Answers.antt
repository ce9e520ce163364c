use Rattle.std.proofs.Common.{◌≡◌, ◌<◌, ℕ, sym, subst, length, List, Some}
use Rattle.hc_types.specs.Places.{kept_of}
use Rattle.hc_engines.specs.large.Index.{place_at}
use Rattle.hc_engines.specs.large.Block.{Block, Reading}
use Rattle.hc_engines.specs.large.Steps.{reading_of}
use Rattle.hc_block.specs.Large.{Large}
use Rattle.hc_block.specs.Reads.{CanRead}
use Rattle.hc_engines.specs.large.Region.{Region, region_at}
use Rattle.hc_block.proofs.Going.{written_fits}
use Rattle.hc_block.proofs.Leaving.{place_there, can_read}
use Rattle.hc_engines.specs.large.Laws.{IsFree}
use Rattle.hc_block.proofs.block_cache.BlockCache.begun.Goals as goal

pub reading_from-requires-clause-there : goal.reading_from-requires-clause-there
reading_from-requires-clause-there g c =
    let s : Block = record { regions = c.self.inside.regions.items; current = c.self.inside.current; sealed = c.self.inside.sealed.items; flushed = c.self.inside.flushed.items; index = c.self.inside.index; jobs = c.self.inside.jobs } in
    let e = subst (λ (x : Large). place_at (kept_of x.flash.bits c.args.key.now) x.block.index ≡ Some c.args.place) (sym c.self.view_is) c.requires in
    subst (λ (rs : List Region). c.args.place.region < length rs) (sym c.deref.ensures.value) (place_there c.self.inside.flash s (kept_of c.self.inside.flash.bits c.args.key.now) c.args.place c.self.invariant.0 e)

pub reading_from-requires-clause-written : goal.reading_from-requires-clause-written
reading_from-requires-clause-written g c =
    let s : Block = record { regions = c.self.inside.regions.items; current = c.self.inside.current; sealed = c.self.inside.sealed.items; flushed = c.self.inside.flushed.items; index = c.self.inside.index; jobs = c.self.inside.jobs } in
    subst (λ (rs : List Region). (region_at c.args.place.region rs).written < 4294967296) (sym c.deref.ensures.value) (written_fits c.self.inside.flash s c.args.place.region c.self.invariant.0)

pub returns-clause-value : goal.returns-clause-value
returns-clause-value g c =
    let s : Block = record { regions = c.self.inside.regions.items; current = c.self.inside.current; sealed = c.self.inside.sealed.items; flushed = c.self.inside.flushed.items; index = c.self.inside.index; jobs = c.self.inside.jobs } in
    subst (λ (x : Large). c.in_ok-reading.reading ≡ reading_of x.flash c.args.key.now c.args.place x.block) c.self.view_is (c.in_ok-reading.ensures s (sym c.deref.ensures.value))

pub returns-clause-can : goal.returns-clause-can
returns-clause-can g c =
    let s : Block = record { regions = c.self.inside.regions.items; current = c.self.inside.current; sealed = c.self.inside.sealed.items; flushed = c.self.inside.flushed.items; index = c.self.inside.index; jobs = c.self.inside.jobs } in
    let e = subst (λ (x : Large). place_at (kept_of x.flash.bits c.args.key.now) x.block.index ≡ Some c.args.place) (sym c.self.view_is) c.requires in
    let same = c.in_ok-reading.ensures s (sym c.deref.ensures.value) in
    subst (λ (x : Large). c.in_ok-reading.reading.next < c.in_ok-reading.reading.until → (number : ℕ) → IsFree number x.block → CanRead x.flash number c.in_ok-reading.reading x.block) c.self.view_is
    (subst (λ (rd : Reading). rd.next < rd.until → (number : ℕ) → IsFree number s → CanRead c.self.inside.flash number rd s) (sym same)
    (λ below number free. can_read c.self.inside.flash number (kept_of c.self.inside.flash.bits c.args.key.now) c.args.key.now c.args.place s c.self.invariant.0 e below free))
