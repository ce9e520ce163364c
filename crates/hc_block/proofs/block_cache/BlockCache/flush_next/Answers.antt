use Rattle.std.proofs.Common.{◌≡◌, ◌<◌, ℕ, sym, refl, subst, length, List}
use Rattle.std.specs.Prelude.{IfSome}
use Rattle.hc_engines.specs.large.Region.{Region, region_at}
use Rattle.hc_engines.specs.large.Block.{Block}
use Rattle.hc_block.specs.Large.{Large}
use Rattle.hc_engines.specs.large.Choices.{flush_next}
use Rattle.hc_region.specs.Stages.{mark_seen}
use Rattle.hc_block.specs.Going.{choice_seen, CanGoOut}
use Rattle.hc_block.proofs.Keeping.{current_all}
use Rattle.hc_block.proofs.Going.{sealed_there, written_fits, all_can_go_out}
use Rattle.hc_engines.specs.large.Laws.{IsFree}
use Rattle.hc_block.proofs.block_cache.BlockCache.flush_next.Goals as goal

pub next_of-requires-clause-sealed : goal.next_of-requires-clause-sealed
next_of-requires-clause-sealed g c =
    let s : Block = record { regions = c.self.inside.regions.items; current = c.self.inside.current; sealed = c.self.inside.sealed.items; flushed = c.self.inside.flushed.items; index = c.self.inside.index; jobs = c.self.inside.jobs } in
    rw c.deref.ensures.value (sealed_there c.self.inside.flash s c.self.invariant.0)

pub next_of-requires-clause-there : goal.next_of-requires-clause-there
next_of-requires-clause-there g c =
    let s : Block = record { regions = c.self.inside.regions.items; current = c.self.inside.current; sealed = c.self.inside.sealed.items; flushed = c.self.inside.flushed.items; index = c.self.inside.index; jobs = c.self.inside.jobs } in
    subst (λ (rs : List Region). IfSome c.self.inside.current (λ r. r < length rs)) (sym c.deref.ensures.value) (current_all c.self.inside.flash s c.self.invariant.0)

pub next_of-requires-clause-written : goal.next_of-requires-clause-written
next_of-requires-clause-written g c =
    let s : Block = record { regions = c.self.inside.regions.items; current = c.self.inside.current; sealed = c.self.inside.sealed.items; flushed = c.self.inside.flushed.items; index = c.self.inside.index; jobs = c.self.inside.jobs } in
    subst (λ (rs : List Region). (r : ℕ) → (region_at r rs).written < 4294967296) (sym c.deref.ensures.value) (λ r. written_fits c.self.inside.flash s r c.self.invariant.0)

pub returns-clause-value : goal.returns-clause-value
returns-clause-value g c =
    let s : Block = record { regions = c.self.inside.regions.items; current = c.self.inside.current; sealed = c.self.inside.sealed.items; flushed = c.self.inside.flushed.items; index = c.self.inside.index; jobs = c.self.inside.jobs } in
    subst (λ (x : Large). choice_seen c.next_of.result ≡ flush_next x.flash x.block) c.self.view_is (c.next_of.ensures s (sym c.deref.ensures.value) refl refl)

pub returns-clause-can : goal.returns-clause-can
returns-clause-can g c =
    let s : Block = record { regions = c.self.inside.regions.items; current = c.self.inside.current; sealed = c.self.inside.sealed.items; flushed = c.self.inside.flushed.items; index = c.self.inside.index; jobs = c.self.inside.jobs } in
    subst (λ (x : Large). (number : ℕ) → IsFree number x.block → IfSome c.next_of.result (λ turn. CanGoOut x.flash number turn.0 (mark_seen turn.1) x.block)) c.self.view_is
    (λ number free. all_can_go_out c.self.inside.flash number s c.next_of.result c.self.invariant.0 free (sym (c.next_of.ensures s (sym c.deref.ensures.value) refl refl)))
