use Rattle.std.proofs.Common.{◌≡◌, ◌∙◌, ◌<◌, ℕ, List, Some, None, sym, ap, subst, length, set}
use Rattle.std.specs.Prelude.{Bool, option_map, if◌then◌else◌}
use Rattle.hc_types.specs.Places.{kept_of}
use Rattle.hc_engines.specs.large.Region.{Region, region_at}
use Rattle.hc_engines.specs.large.Block.{Block, Reading}
use Rattle.hc_engines.specs.Seen.{answer_of}
use Rattle.hc_region.specs.CleanNumbers.{clean_from, now_clean}
use Rattle.hc_region.specs.Pins.{is_last, released, released_by}
use Rattle.hc_block.specs.Large.{Large}
use Rattle.hc_block.specs.Endings.{IsReadEnding}
use Rattle.hc_block.specs.Works.{reading_at, IsReading}
use Rattle.hc_block.proofs.Leaving.{read_there, read_ends}
use Rattle.hc_block.proofs.block_cache.BlockCache.read_ending.Goals as goal

pub with_released-requires-clause-there : goal.with_released-requires-clause-there
with_released-requires-clause-there g c =
    let s : Block = record { regions = c.self.inside.regions.items; current = c.self.inside.current; sealed = c.self.inside.sealed.items; flushed = c.self.inside.flushed.items; index = c.self.inside.index; jobs = c.self.inside.jobs } in
    let h = subst (λ (x : Large). IsReading c.args.number x.block.jobs) (sym c.self.view_is) c.requires in
    let re : c.region-r.result ≡ (reading_at c.args.number s.jobs).place.region = c.region-r.ensures ∙ ap (λ (rd : Reading). rd.place.region) c.reading-reading.ensures in
    rw c.deref.ensures.value (subst (λ (r : ℕ). r < length c.self.inside.regions.items) (sym re) (read_there c.self.inside.flash c.args.number s c.self.invariant.0 h))

pub returns : goal.returns
returns g c =
    let s : Block = record { regions = c.self.inside.regions.items; current = c.self.inside.current; sealed = c.self.inside.sealed.items; flushed = c.self.inside.flushed.items; index = c.self.inside.index; jobs = c.self.inside.jobs } in
    let h = subst (λ (x : Large). IsReading c.args.number x.block.jobs) (sym c.self.view_is) c.requires in
    let re : c.region-r.result ≡ (reading_at c.args.number s.jobs).place.region = c.region-r.ensures ∙ ap (λ (rd : Reading). rd.place.region) c.reading-reading.ensures in
    let he : c.hash-hash.result ≡ kept_of c.self.inside.flash.bits (reading_at c.args.number s.jobs).key = c.hash-hash.ensures ∙ ap (λ (rd : Reading). kept_of c.self.inside.flash.bits rd.key) c.reading-reading.ensures in
    let clean : now_clean c.in_ok-clean.clean (clean_from 0 s.regions) ≡ clean_from 0 (set s.regions c.region-r.result (released (region_at c.region-r.result s.regions))) =
    subst (λ (rs : List Region). now_clean c.in_ok-clean.clean (clean_from 0 rs) ≡ clean_from 0 (set rs c.region-r.result (released (region_at c.region-r.result rs)))) c.deref.ensures.value c.in_ok-clean.ensures.clean in
    let cleared : c.cleared_of-cleared.result ≡ released_by (region_at c.region-r.result s.regions) c.region-r.result =
    c.cleared_of-cleared.ensures ∙ ap (λ (b : Bool). if b then Some c.region-r.result else None) (c.in_ok-clean.ensures.last ∙ ap (λ (rs : List Region). is_last (region_at c.region-r.result rs)) c.deref.ensures.value) in
    subst (λ (x : Large). IsReadEnding x.flash c.args.number x.block (option_map answer_of c.args.came) (record { outcome = c.read.result; rest = record { lost = c.lost_of-lost.result; clean = c.in_ok-clean.clean } })) c.self.view_is
    (read_ends c.self.inside.flash c.args.number c.region-r.result c.hash-hash.result s (option_map answer_of c.args.came) (record { lost = c.lost_of-lost.result; clean = c.in_ok-clean.clean }) c.read.result (answer_of c.answer_of_read.result) c.in_ok-losses.losses.items c.cleared_of-cleared.result h
    re he c.lost_of-lost.ensures clean c.answer_of_read.ensures c.in_ok-losses.ensures cleared c.read.ensures)
