use Rattle.std.proofs.Common.{◌∙◌, refl, ap, arith}
use Rattle.std.proofs.lemmas.Result.{IfOk-from_err, MatchResult-from_err}
use Rattle.hc_engines.specs.large.Index.{Place, leading}
use Rattle.hc_block.proofs.Undoing.{put_back}
use Rattle.hc_block.proofs.puts.append_in.Goals as goal

pub returns-in-Err-clause-err_regions : goal.returns-in-Err-clause-err_regions
returns-in-Err-clause-err_regions g c = put_back c.args.flash.now c.args.hash c.args.r c.args.bytes.now c.args.regions.now.items c.append_at.new.regions.items c.undo_at.new.regions.items c.requires.there c.in_ok-append_at.ensures.ok c.undo_at.ensures

pub append_at-requires-clause-small : goal.append_at-requires-clause-small
append_at-requires-clause-small g c = omega (arith, c.requires.small)

pub append_at-requires-clause-there : goal.append_at-requires-clause-there
append_at-requires-clause-there g c = c.requires.there

pub filled_at-offset-requires-clause-small : goal.filled_at-offset-requires-clause-small
filled_at-offset-requires-clause-small g c = rw c.deref.ensures.value (omega (arith, c.requires.small))

pub filled_at-offset-requires-clause-there : goal.filled_at-offset-requires-clause-there
filled_at-offset-requires-clause-there g c = rw c.deref.ensures.value c.requires.there

pub overflow_cast-bytes : goal.overflow_cast-bytes
overflow_cast-bytes g c = omega (arith, c.requires.short)

pub returns-in-Err-clause-err_index : goal.returns-in-Err-clause-err_index
returns-in-Err-clause-err_index g c = c.in-Err.ensures.err

pub returns-in-Err-clause-index : goal.returns-in-Err-clause-index
returns-in-Err-clause-index g c = tt

pub returns-in-Err-clause-regions : goal.returns-in-Err-clause-regions
returns-in-Err-clause-regions g c = tt

pub returns-in-Ok-clause-err_index : goal.returns-in-Ok-clause-err_index
returns-in-Ok-clause-err_index g c = tt

pub returns-in-Ok-clause-err_regions : goal.returns-in-Ok-clause-err_regions
returns-in-Ok-clause-err_regions g c = tt

pub returns-in-Ok-clause-index : goal.returns-in-Ok-clause-index
returns-in-Ok-clause-index g c = c.in-Ok.ensures.ok ∙ ap (λ (p : Place). leading c.args.hash p c.args.index.now) (rw (c.new.ensures, c.filled_at-offset.ensures, c.deref.ensures.value) refl)

pub returns-in-Ok-clause-regions : goal.returns-in-Ok-clause-regions
returns-in-Ok-clause-regions g c = c.in_ok-append_at.ensures.ok

pub returns-in_err-append_at-clause-err_index : goal.returns-in_err-append_at-clause-err_index
returns-in_err-append_at-clause-err_index g c = MatchResult-from_err c.from_residual.result _ _ c.from_residual.ensures.0 (λ _. refl)

pub returns-in_err-append_at-clause-err_regions : goal.returns-in_err-append_at-clause-err_regions
returns-in_err-append_at-clause-err_regions g c = MatchResult-from_err c.from_residual.result _ _ c.from_residual.ensures.0 (λ _. c.in_err-append_at.ensures.err)

pub returns-in_err-append_at-clause-index : goal.returns-in_err-append_at-clause-index
returns-in_err-append_at-clause-index g c = IfOk-from_err c.from_residual.result _ c.from_residual.ensures.0

pub returns-in_err-append_at-clause-regions : goal.returns-in_err-append_at-clause-regions
returns-in_err-append_at-clause-regions g c = IfOk-from_err c.from_residual.result _ c.from_residual.ensures.0
