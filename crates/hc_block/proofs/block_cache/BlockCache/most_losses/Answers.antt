use Rattle.std.proofs.Common.{◌≡◌, ◌∙◌, ◌≤◌, List, Some, ap, subst, sym, length}
use Rattle.std.specs.Prelude.{option_map}
use Rattle.hc_engines.specs.Engine.{IoResult}
use Rattle.hc_engines.specs.large.Block.{Block, Moved, Writing, work_of}
use Rattle.hc_engines.specs.large.Region.{Appended, region_at}
use Rattle.hc_block.specs.Large.{Large}
use Rattle.hc_block.specs.Moves.{resume_by}
use Rattle.hc_block.specs.Works.{work_seen}
use Rattle.hc_block.proofs.Settling.{can_settle}
use Rattle.hc_block.proofs.Peeks.{write_loses}
use Rattle.hc_block.proofs.block_cache.BlockCache.most_losses.Goals as goal

pub appended_at-requires : goal.appended_at-requires
appended_at-requires g c =
    let s : Block = record { regions = c.self.inside.regions.items; current = c.self.inside.current; sealed = c.self.inside.sealed.items; flushed = c.self.inside.flushed.items; index = c.self.inside.index; jobs = c.self.inside.jobs } in
    let there : work_of c.args.number s.jobs ≡ Some (Writing c.in-Some-Writing.region c.in-Some-Writing.field-0-1) =
    sym c.get.ensures ∙ ap (option_map (λ w. work_seen w.now)) c.in-Some-Writing.is ∙ ap (λ w. Some (work_seen w)) c.in-Some-Writing.field-0-is in
    rw c.deref.ensures.value (can_settle c.self.inside.flash c.args.number c.in-Some-Writing.region s c.self.invariant.0 (c.in-Some-Writing.field-0-1, there)).there

pub returns-in-Some-Writing : goal.returns-in-Some-Writing
returns-in-Some-Writing g c =
    let s : Block = record { regions = c.self.inside.regions.items; current = c.self.inside.current; sealed = c.self.inside.sealed.items; flushed = c.self.inside.flushed.items; index = c.self.inside.index; jobs = c.self.inside.jobs } in
    let there : work_of c.args.number s.jobs ≡ Some (Writing c.in-Some-Writing.region c.in-Some-Writing.field-0-1) =
    sym c.get.ensures ∙ ap (option_map (λ w. work_seen w.now)) c.in-Some-Writing.is ∙ ap (λ w. Some (work_seen w)) c.in-Some-Writing.field-0-is in
    let all = c.appended_at.ensures ∙ ap (λ rs. (region_at c.in-Some-Writing.region rs).appended) c.deref.ensures.value in
    subst (λ (x : Large). (came : IoResult) (m : Moved) → resume_by x.flash c.args.number came x.block ≡ Some m → length m.outcome.losses ≤ length c.appended_at.result.now) c.self.view_is
    (subst (λ (xs : List Appended). (came : IoResult) (m : Moved) → resume_by c.self.inside.flash c.args.number came s ≡ Some m → length m.outcome.losses ≤ length xs) (sym all)
    (write_loses c.self.inside.flash c.args.number c.in-Some-Writing.region c.in-Some-Writing.field-0-1 s there))
