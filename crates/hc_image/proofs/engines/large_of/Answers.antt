use Rattle.std.proofs.Common.{sym, subst}
use Rattle.std.specs.Prelude.{is_none}
use Rattle.hc_engines.specs.large.Block.{Block}
use Rattle.hc_block.specs.Resting.{block_at, misfit}
use Rattle.hc_image.specs.declared.refusal.Refusal.{Refusal}
use Rattle.hc_image.specs.Refusing.{IsUnfit}
use Rattle.hc_image.proofs.Fitting.{parts_arent}
use Rattle.hc_image.proofs.engines.large_of.Goals as goal

pub returns-in-Err-clause-why : goal.returns-in-Err-clause-why
returns-in-Err-clause-why g c =
    let p = c.args.parts in
    let s : Block = block_at p.regions.items p.current p.sealed.items p.flushed.items p.index in
    subst (λ (why : Refusal). IsUnfit (is_none (misfit c.args.flash s)) why) (sym c.refusal_of.ensures) (parts_arent c.args.flash s c.in-Err.refused.why c.in-Err.ensures.why)
