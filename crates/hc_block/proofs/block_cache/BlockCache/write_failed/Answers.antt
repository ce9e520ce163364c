use Rattle.std.proofs.Common.{sym, subst, Some}
use Rattle.std.proofs.lemmas.Result.{IfOk-weaker}
use Rattle.hc_types.specs.Loss.{Fault}
use Rattle.hc_engines.specs.large.Block.{Block}
use Rattle.hc_block.specs.Large.{Large}
use Rattle.hc_block.specs.Ends.{CanEnd, left_by}
use Rattle.hc_block.specs.Settling.{IsWriting}
use Rattle.hc_block.proofs.RegionEnds.{can_fail}
use Rattle.hc_block.proofs.block_cache.BlockCache.write_failed.Goals as goal

pub end_region-requires : goal.end_region-requires
end_region-requires g c =
    let s : Block = record { regions = c.self.inside.regions.items; current = c.self.inside.current; sealed = c.self.inside.sealed.items; flushed = c.self.inside.flushed.items; index = c.self.inside.index; jobs = c.self.inside.jobs } in
    let out = subst (λ (x : Large). IsWriting c.args.number c.args.r x.block) (sym c.self.view_is) c.requires in
    subst (λ (x : Large). CanEnd x.flash Fault c.args.r (left_by (Some c.args.number) x.block)) c.self.view_is (can_fail c.self.inside.flash s c.args.number c.args.r out.0 c.self.invariant.0 out.1)

pub returns-clause-ok : goal.returns-clause-ok
returns-clause-ok g c = IfOk-weaker c.end_region.result _ _ (λ outcome e bytes. e) c.end_region.ensures.ok
