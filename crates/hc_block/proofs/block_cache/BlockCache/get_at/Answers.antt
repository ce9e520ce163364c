use Rattle.std.proofs.Common.{refl, ◌∙◌, sym}
use Rattle.std.proofs.lemmas.Bool.{ltb-true}
use Rattle.std.proofs.lemmas.Result.{IfOk-from_err, MatchResult-from_err}
use Rattle.hc_block.proofs.block_cache.BlockCache.get_at.Goals as goal

pub start_read-requires : goal.start_read-requires
start_read-requires g c = c.in_ok-reading.ensures.can (ltb-true _ _ (sym c.is_waiting.ensures ∙ c.if-is_waiting.true)) c.args.number c.requires.free

pub returns-clause-err : goal.returns-clause-err
returns-clause-err g c = tt

pub returns-clause-flash : goal.returns-clause-flash
returns-clause-flash g c = c.end_now.ensures.flash

pub returns-in_err-came-clause-err : goal.returns-in_err-came-clause-err
returns-in_err-came-clause-err g c = MatchResult-from_err c.from_residual-in_err-came.result _ _ c.from_residual-in_err-came.ensures.0 (λ _. refl)

pub returns-in_err-came-clause-flash : goal.returns-in_err-came-clause-flash
returns-in_err-came-clause-flash g c = refl

pub returns-in_err-came-clause-ok : goal.returns-in_err-came-clause-ok
returns-in_err-came-clause-ok g c = IfOk-from_err c.from_residual-in_err-came.result _ c.from_residual-in_err-came.ensures.0

pub returns-in_err-outcome-clause-err : goal.returns-in_err-outcome-clause-err
returns-in_err-outcome-clause-err g c = MatchResult-from_err c.from_residual-in_err-outcome.result _ _ c.from_residual-in_err-outcome.ensures.0 (λ _. c.in_err-outcome.ensures.err)

pub returns-in_err-outcome-clause-flash : goal.returns-in_err-outcome-clause-flash
returns-in_err-outcome-clause-flash g c = c.end_now.ensures.flash

pub returns-in_err-outcome-clause-ok : goal.returns-in_err-outcome-clause-ok
returns-in_err-outcome-clause-ok g c = IfOk-from_err c.from_residual-in_err-outcome.result _ c.from_residual-in_err-outcome.ensures.0

pub returns-in_err-page-clause-err : goal.returns-in_err-page-clause-err
returns-in_err-page-clause-err g c = MatchResult-from_err c.from_residual-in_err-page.result _ _ c.from_residual-in_err-page.ensures.0 (λ _. c.in_err-page.ensures.err)

pub returns-in_err-page-clause-flash : goal.returns-in_err-page-clause-flash
returns-in_err-page-clause-flash g c = c.start_read.ensures.flash

pub returns-in_err-page-clause-ok : goal.returns-in_err-page-clause-ok
returns-in_err-page-clause-ok g c = IfOk-from_err c.from_residual-in_err-page.result _ c.from_residual-in_err-page.ensures.0

pub returns-in_err-reading-clause-err : goal.returns-in_err-reading-clause-err
returns-in_err-reading-clause-err g c = MatchResult-from_err c.from_residual.result _ _ c.from_residual.ensures.0 (λ _. refl)

pub returns-in_err-reading-clause-flash : goal.returns-in_err-reading-clause-flash
returns-in_err-reading-clause-flash g c = refl

pub returns-in_err-reading-clause-ok : goal.returns-in_err-reading-clause-ok
returns-in_err-reading-clause-ok g c = IfOk-from_err c.from_residual.result _ c.from_residual.ensures.0

pub returns-then-is_waiting-clause-err : goal.returns-then-is_waiting-clause-err
returns-then-is_waiting-clause-err g c = tt

pub returns-then-is_waiting-clause-flash : goal.returns-then-is_waiting-clause-flash
returns-then-is_waiting-clause-flash g c = c.start_read.ensures.flash
