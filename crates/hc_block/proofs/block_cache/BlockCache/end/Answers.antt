use Rattle.std.proofs.Common.{◌≡◌, ◌∙◌, ◌<◌, ℕ, sym, ap, subst, length, set}
use Rattle.hc_engines.specs.large.Region.{region_at}
use Rattle.hc_engines.specs.large.Block.{Block, Reading}
use Rattle.hc_region.specs.CleanNumbers.{clean_from, now_clean}
use Rattle.hc_region.specs.Pins.{released}
use Rattle.hc_block.specs.Large.{Large}
use Rattle.hc_block.specs.Endings.{Rest, CanEndRead, index_without}
use Rattle.hc_block.specs.Works.{reading_at}
use Rattle.hc_block.proofs.Leaving.{read_there, end_kept}
use Rattle.hc_block.proofs.block_cache.BlockCache.end.Goals as goal

pub release_at-cleared-requires : goal.release_at-cleared-requires
release_at-cleared-requires g c =
    let s : Block = record { regions = c.self.inside.regions.items; current = c.self.inside.current; sealed = c.self.inside.sealed.items; flushed = c.self.inside.flushed.items; index = c.self.inside.index; jobs = c.self.inside.jobs } in
    let can = subst (λ (x : Large). CanEndRead c.args.number c.args.rest x.block) (sym c.self.view_is) c.requires in
    let re : c.region-r.result ≡ (reading_at c.args.number s.jobs).place.region = c.region-r.ensures ∙ ap (λ (rd : Reading). rd.place.region) c.reading.ensures in
    subst (λ (r : ℕ). r < length c.self.inside.regions.items) (sym re) (read_there c.self.inside.flash c.args.number s c.self.invariant.0 can.reads)

pub invariant_of-self : goal.invariant_of-self
invariant_of-self g c =
    let s : Block = record { regions = c.self.inside.regions.items; current = c.self.inside.current; sealed = c.self.inside.sealed.items; flushed = c.self.inside.flushed.items; index = c.self.inside.index; jobs = c.self.inside.jobs } in
    let can = subst (λ (x : Large). CanEndRead c.args.number c.args.rest x.block) (sym c.self.view_is) c.requires in
    let re : c.region-r.result ≡ (reading_at c.args.number s.jobs).place.region = c.region-r.ensures ∙ ap (λ (rd : Reading). rd.place.region) c.reading.ensures in
    let index : c.leave_index.new.index ≡ index_without c.args.rest.lost s.index = c.leave_index.ensures ∙ ap (λ (rest : Rest). index_without rest.lost s.index) c.rest.view_is in
    let clean : now_clean c.args.rest.clean (clean_from 0 s.regions) ≡ clean_from 0 (set s.regions c.region-r.result (released (region_at c.region-r.result s.regions))) =
    subst (λ (r : ℕ). now_clean c.args.rest.clean (clean_from 0 s.regions) ≡ clean_from 0 (set s.regions r (released (region_at r s.regions)))) (sym re) can.clean in (
      end_kept c.self.inside.flash c.args.number c.region-r.result c.args.rest s c.release_at-cleared.result c.leave_index.new.index c.release_at-cleared.new.regions.items c.leave_flushed.new.flushed.items c.remove.new.self c.self.invariant.0 can.reads
          re index c.release_at-cleared.ensures.regions c.release_at-cleared.ensures.cleared c.leave_flushed.ensures c.remove.ensures,
      c.change.ensures ∙ ap (λ (rest : Rest). now_clean rest.clean c.self.inside.clean) c.rest.view_is ∙ ap (now_clean c.args.rest.clean) c.self.invariant.1 ∙ clean ∙ sym (ap (clean_from 0) c.release_at-cleared.ensures.regions),
    )
