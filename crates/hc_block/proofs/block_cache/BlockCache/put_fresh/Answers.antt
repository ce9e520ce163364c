use Rattle.std.proofs.Common.{◌∙◌, refl, ap, ◌≡◌, ℕ, ◌≤◌, List, Some, sym, length, subst}
use Rattle.hc_types.specs.FlashEntry.{entry_of}
use Rattle.hc_engines.specs.large.Region.{region_len, lowest_clean}
use Rattle.hc_engines.specs.large.Block.{Block, finished}
use Rattle.hc_engines.specs.large.Steps.{open_next, append, stored}
use Rattle.hc_block.specs.Large.{Large, Kept}
use Rattle.hc_block.proofs.Keeping.{can_open, fresh_kept, fresh_is, stored_is}
use Rattle.std.proofs.lemmas.Result.{IfOk-from_err, MatchResult-from_err}
use Rattle.hc_block.proofs.block_cache.BlockCache.put_fresh.Goals as goal

pub open_in-requires-clause-can : goal.open_in-requires-clause-can
open_in-requires-clause-can g c =
    let s : Block = record { regions = c.self.inside.regions.items; current = c.self.inside.current; sealed = c.self.inside.sealed.items; flushed = c.self.inside.flushed.items; index = c.self.inside.index; jobs = c.self.inside.jobs } in
    let low = subst (λ (x : Large). lowest_clean 0 x.block.regions ≡ Some c.args.r) (sym c.self.view_is) c.requires.clean in
    let short = subst (λ (x : Large). length c.args.bytes.now ≤ region_len x.flash) (sym c.self.view_is) c.requires.fits in
    can_open c.self.inside.flash s (length c.args.bytes.now) c.args.r c.self.invariant.0 low short

pub invariant_of-self-2 : goal.invariant_of-self-2
invariant_of-self-2 g c =
    let s : Block = record { regions = c.self.inside.regions.items; current = c.self.inside.current; sealed = c.self.inside.sealed.items; flushed = c.self.inside.flushed.items; index = c.self.inside.index; jobs = c.self.inside.jobs } in
    let low = subst (λ (x : Large). lowest_clean 0 x.block.regions ≡ Some c.args.r) (sym c.self.view_is) c.requires.clean in
    let short = subst (λ (x : Large). length c.args.bytes.now ≤ region_len x.flash) (sym c.self.view_is) c.requires.fits in
    let long = subst (λ (bytes : List ℕ). length bytes ≤ region_len c.self.inside.flash) c.requires.bytes short in
    let new = fresh_is c.self.inside.flash s (entry_of c.args.entry.now) c.args.bytes.now c.kept-hash.result c.args.r c.open_in.new.regions.items c.open_in.new.sealed.items c.open_in.new.index low c.requires.bytes c.kept-hash.ensures c.in_ok-open_in.ensures.regions c.in_ok-open_in.ensures.sealed c.in_ok-open_in.ensures.index in (
      subst (λ (t : Block). Kept c.self.inside.flash t) new (fresh_kept c.self.inside.flash s (entry_of c.args.entry.now) c.args.r c.self.invariant.0 low long),
      c.in_ok-open_in.ensures.clean,
    )

pub returns-clause-ok : goal.returns-clause-ok
returns-clause-ok g c =
    let s : Block = record { regions = c.self.inside.regions.items; current = c.self.inside.current; sealed = c.self.inside.sealed.items; flushed = c.self.inside.flushed.items; index = c.self.inside.index; jobs = c.self.inside.jobs } in
    let u : Block = record s { regions = c.open_in.new.regions.items; current = Some c.args.r; sealed = c.open_in.new.sealed.items; index = c.open_in.new.index } in
    let low = subst (λ (x : Large). lowest_clean 0 x.block.regions ≡ Some c.args.r) (sym c.self.view_is) c.requires.clean in
    let new = fresh_is c.self.inside.flash s (entry_of c.args.entry.now) c.args.bytes.now c.kept-hash.result c.args.r c.open_in.new.regions.items c.open_in.new.sealed.items c.open_in.new.index low c.requires.bytes c.kept-hash.ensures c.in_ok-open_in.ensures.regions c.in_ok-open_in.ensures.sealed c.in_ok-open_in.ensures.index in
    subst (λ (x : Large). stored x.flash (entry_of c.args.entry.now) x.block (Some c.args.r) (append x.flash c.args.r (entry_of c.args.entry.now) (open_next c.args.r x.block)) ≡ finished u c.stored.result) c.self.view_is
    (stored_is c.self.inside.flash s (append c.self.inside.flash c.args.r (entry_of c.args.entry.now) (open_next c.args.r s)) u (entry_of c.args.entry.now) c.kept-hash.result (Some c.args.r) c.get.result c.in_ok-losses.losses.items c.stored.result c.kept-hash.ensures c.get.ensures c.in_ok-losses.ensures c.stored.ensures new)

pub invariant_of-self : goal.invariant_of-self
invariant_of-self g c = rw (c.in_err-open_in.ensures.err_regions, c.in_err-open_in.ensures.err_clean, c.in_err-open_in.ensures.err_sealed, c.in_err-open_in.ensures.err_index) c.self.invariant

pub open_in-requires-clause-clean : goal.open_in-requires-clause-clean
open_in-requires-clause-clean g c = c.self.invariant.1

pub returns-clause-err : goal.returns-clause-err
returns-clause-err g c = tt

pub returns-clause-flash : goal.returns-clause-flash
returns-clause-flash g c = ap (λ (x : Large). x.flash) c.self.view_is

pub returns-in_err-losses-clause-err : goal.returns-in_err-losses-clause-err
returns-in_err-losses-clause-err g c = MatchResult-from_err c.from_residual.result _ _ c.from_residual.ensures.0 (λ _. refl)

pub returns-in_err-losses-clause-flash : goal.returns-in_err-losses-clause-flash
returns-in_err-losses-clause-flash g c = refl

pub returns-in_err-losses-clause-ok : goal.returns-in_err-losses-clause-ok
returns-in_err-losses-clause-ok g c = IfOk-from_err c.from_residual.result _ c.from_residual.ensures.0

pub returns-in_err-open_in-clause-err : goal.returns-in_err-open_in-clause-err
returns-in_err-open_in-clause-err g c =
    let s : Block = record { regions = c.self.inside.regions.items; current = c.self.inside.current; sealed = c.self.inside.sealed.items; flushed = c.self.inside.flushed.items; index = c.self.inside.index; jobs = c.self.inside.jobs } in
    let u : Block = record s { regions = c.open_in.new.regions.items; sealed = c.open_in.new.sealed.items; index = c.open_in.new.index } in
    let same : u ≡ s = rw (c.in_err-open_in.ensures.err_regions, c.in_err-open_in.ensures.err_sealed, c.in_err-open_in.ensures.err_index) refl in
    let large : Block → Large = λ b. record { flash = c.self.inside.flash; block = b } in
    MatchResult-from_err c.from_residual-in_err-open_in.result _ _ c.from_residual-in_err-open_in.ensures.0 (λ _. ap large same ∙ c.self.view_is)

pub returns-in_err-open_in-clause-flash : goal.returns-in_err-open_in-clause-flash
returns-in_err-open_in-clause-flash g c = ap (λ (x : Large). x.flash) c.self.view_is

pub returns-in_err-open_in-clause-ok : goal.returns-in_err-open_in-clause-ok
returns-in_err-open_in-clause-ok g c = IfOk-from_err c.from_residual-in_err-open_in.result _ c.from_residual-in_err-open_in.ensures.0
