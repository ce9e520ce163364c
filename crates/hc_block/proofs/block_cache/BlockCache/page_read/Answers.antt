use Rattle.std.proofs.Common.{refl}
use Rattle.std.proofs.lemmas.Result.{IfOk-from_err, MatchResult-from_err}
use Rattle.hc_block.proofs.block_cache.BlockCache.page_read.Goals as goal

pub returns-in_err-came-in-None-clause-err : goal.returns-in_err-came-in-None-clause-err
returns-in_err-came-in-None-clause-err g c = MatchResult-from_err c.from_residual-in_err-came-in-None.result _ _ c.from_residual-in_err-came-in-None.ensures.0 (λ _. refl)

pub returns-in_err-came-in-None-clause-flash : goal.returns-in_err-came-in-None-clause-flash
returns-in_err-came-in-None-clause-flash g c = refl

pub returns-in_err-came-in-None-clause-ok : goal.returns-in_err-came-in-None-clause-ok
returns-in_err-came-in-None-clause-ok g c = IfOk-from_err c.from_residual-in_err-came-in-None.result _ c.from_residual-in_err-came-in-None.ensures.0

pub returns-in_err-outcome-in-None-clause-err : goal.returns-in_err-outcome-in-None-clause-err
returns-in_err-outcome-in-None-clause-err g c = MatchResult-from_err c.from_residual-in_err-outcome-in-None.result _ _ c.from_residual-in_err-outcome-in-None.ensures.0 (λ _. c.in_err-outcome-in-None.ensures.err)

pub returns-in_err-outcome-in-None-clause-flash : goal.returns-in_err-outcome-in-None-clause-flash
returns-in_err-outcome-in-None-clause-flash g c = c.leave.ensures.flash

pub returns-in_err-outcome-in-None-clause-ok : goal.returns-in_err-outcome-in-None-clause-ok
returns-in_err-outcome-in-None-clause-ok g c = IfOk-from_err c.from_residual-in_err-outcome-in-None.result _ c.from_residual-in_err-outcome-in-None.ensures.0

pub returns-in_err-read_on-in-Some-clause-err : goal.returns-in_err-read_on-in-Some-clause-err
returns-in_err-read_on-in-Some-clause-err g c = MatchResult-from_err c.from_residual.result _ _ c.from_residual.ensures.0 (λ _. c.in_err-read_on-in-Some.ensures.err)

pub returns-in_err-read_on-in-Some-clause-flash : goal.returns-in_err-read_on-in-Some-clause-flash
returns-in_err-read_on-in-Some-clause-flash g c = c.read_on.ensures.flash

pub returns-in_err-read_on-in-Some-clause-ok : goal.returns-in_err-read_on-in-Some-clause-ok
returns-in_err-read_on-in-Some-clause-ok g c = IfOk-from_err c.from_residual.result _ c.from_residual.ensures.0

pub returns-in_ok-outcome-in-None-clause-err : goal.returns-in_ok-outcome-in-None-clause-err
returns-in_ok-outcome-in-None-clause-err g c = tt

pub returns-in_ok-outcome-in-None-clause-flash : goal.returns-in_ok-outcome-in-None-clause-flash
returns-in_ok-outcome-in-None-clause-flash g c = c.leave.ensures.flash

pub returns-in_ok-read_on-in-Some-clause-err : goal.returns-in_ok-read_on-in-Some-clause-err
returns-in_ok-read_on-in-Some-clause-err g c = tt

pub returns-in_ok-read_on-in-Some-clause-flash : goal.returns-in_ok-read_on-in-Some-clause-flash
returns-in_ok-read_on-in-Some-clause-flash g c = c.read_on.ensures.flash
