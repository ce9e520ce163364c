use Rattle.std.proofs.Common.{◌≡◌, refl, ℕ, List, Some, None, sym, length, subst}
use Rattle.hc_types.specs.FlashEntry.{entry_of}
use Rattle.hc_engines.specs.large.Block.{Block, finished}
use Rattle.hc_engines.specs.large.Steps.{fitting, append, stored}
use Rattle.hc_block.specs.Large.{Large, Kept}
use Rattle.hc_block.proofs.Keeping.{ready, put_kept, put_is, stored_is}
use Rattle.hc_engines.specs.large.Region.{region_at}
use Rattle.hc_region.specs.Growing.{grown}
use Rattle.hc_region.proofs.Cleans.{changed_is}
use Rattle.hc_block.proofs.block_cache.BlockCache.put_in.Goals as goal

pub append_in-requires : goal.append_in-requires
append_in-requires g c =
    let s : Block = record { regions = c.self.inside.regions.items; current = c.self.inside.current; sealed = c.self.inside.sealed.items; flushed = c.self.inside.flushed.items; index = c.self.inside.index; jobs = c.self.inside.jobs } in
    let fits = subst (λ (x : Large). fitting x.flash x.block (length c.args.bytes.now) x.block.current ≡ Some c.args.r) (sym c.self.view_is) c.requires.fits in
    ready c.self.inside.flash s (length c.args.bytes.now) c.args.r c.self.invariant.0 fits

pub invariant_of-self-2 : goal.invariant_of-self-2
invariant_of-self-2 g c =
    let s : Block = record { regions = c.self.inside.regions.items; current = c.self.inside.current; sealed = c.self.inside.sealed.items; flushed = c.self.inside.flushed.items; index = c.self.inside.index; jobs = c.self.inside.jobs } in
    let fits = subst (λ (x : Large). fitting x.flash x.block (length c.args.bytes.now) x.block.current ≡ Some c.args.r) (sym c.self.view_is) c.requires.fits in
    let long = subst (λ (bytes : List ℕ). fitting c.self.inside.flash s (length bytes) s.current ≡ Some c.args.r) c.requires.bytes fits in
    let new = put_is c.self.inside.flash s (entry_of c.args.entry.now) c.args.bytes.now c.kept-hash.result c.args.r c.append_in.new.regions.items c.append_in.new.index c.requires.bytes c.kept-hash.ensures c.in_ok-append_in.ensures.regions c.in_ok-append_in.ensures.index in (
      subst (λ (t : Block). Kept c.self.inside.flash t) new (put_kept c.self.inside.flash s (entry_of c.args.entry.now) c.args.r c.self.invariant.0 long),
      changed_is c.args.r s.regions c.append_in.new.regions.items (grown c.self.inside.flash c.kept-hash.result c.args.bytes.now (region_at c.args.r s.regions)) c.self.inside.clean refl c.self.invariant.1 c.in_ok-append_in.ensures.regions,
    )

pub returns-clause-ok : goal.returns-clause-ok
returns-clause-ok g c =
    let s : Block = record { regions = c.self.inside.regions.items; current = c.self.inside.current; sealed = c.self.inside.sealed.items; flushed = c.self.inside.flushed.items; index = c.self.inside.index; jobs = c.self.inside.jobs } in
    let u : Block = record s { regions = c.append_in.new.regions.items; index = c.append_in.new.index } in
    let new = put_is c.self.inside.flash s (entry_of c.args.entry.now) c.args.bytes.now c.kept-hash.result c.args.r c.append_in.new.regions.items c.append_in.new.index c.requires.bytes c.kept-hash.ensures c.in_ok-append_in.ensures.regions c.in_ok-append_in.ensures.index in
    subst (λ (x : Large). stored x.flash (entry_of c.args.entry.now) x.block None (append x.flash c.args.r (entry_of c.args.entry.now) x.block) ≡ finished u c.stored.result) c.self.view_is
    (stored_is c.self.inside.flash s (append c.self.inside.flash c.args.r (entry_of c.args.entry.now) s) u (entry_of c.args.entry.now) c.kept-hash.result None c.get.result c.in_ok-losses.losses.items c.stored.result c.kept-hash.ensures c.get.ensures c.in_ok-losses.ensures c.stored.ensures new)
