use Rattle.std.proofs.Common.{refl}
use Rattle.hc_block.proofs.Making.{new_kept}
use Rattle.std.proofs.lemmas.Result.{IfOk-from_err}
use Rattle.hc_block.proofs.block_cache.BlockCache.new.Goals as goal

pub invariant_of-result : goal.invariant_of-result
invariant_of-result g c = rw (c.in_ok-fill.ensures, c.in_ok-regions.ensures.items, c.new-2.ensures.items, c.new-3.ensures.items, c.in_ok-index.ensures, c.new-4.ensures, c.in_ok-clean.ensures) (new_kept c.args.flash c.requires, refl)

pub returns : goal.returns
returns g c = rw (c.in_ok-fill.ensures, c.in_ok-regions.ensures.items, c.new-2.ensures.items, c.new-3.ensures.items, c.in_ok-index.ensures, c.new-4.ensures) refl

pub returns-in_err-clean : goal.returns-in_err-clean
returns-in_err-clean g c = IfOk-from_err c.from_residual-in_err-clean.result _ c.from_residual-in_err-clean.ensures.0

pub returns-in_err-fill : goal.returns-in_err-fill
returns-in_err-fill g c = IfOk-from_err c.from_residual-in_err-fill.result _ c.from_residual-in_err-fill.ensures.0

pub returns-in_err-index : goal.returns-in_err-index
returns-in_err-index g c = IfOk-from_err c.from_residual-in_err-index.result _ c.from_residual-in_err-index.ensures.0

pub returns-in_err-regions : goal.returns-in_err-regions
returns-in_err-regions g c = IfOk-from_err c.from_residual.result _ c.from_residual.ensures.0
