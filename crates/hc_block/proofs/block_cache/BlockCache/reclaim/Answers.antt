use Rattle.std.proofs.Common.{◌∙◌, Some, refl, sym, ap}
use Rattle.std.proofs.lemmas.Result.{IfOk-from_err, MatchResult-from_err}
use Rattle.hc_engines.specs.large.Block.{Moved, finished}
use Rattle.hc_engines.specs.large.Steps.{reclaim_of}
use Rattle.hc_engines.proofs.large.Choices.{reclaim_by_choice}
use Rattle.hc_block.proofs.block_cache.BlockCache.reclaim.Goals as goal

pub returns-in-None-clause-err : goal.returns-in-None-clause-err
returns-in-None-clause-err g c = tt

pub returns-in-None-clause-flash : goal.returns-in-None-clause-flash
returns-in-None-clause-flash g c = refl

pub returns-in-None-clause-ok : goal.returns-in-None-clause-ok
returns-in-None-clause-ok g c = reclaim_by_choice c.args.self.now.flash c.args.self.now.block ∙ ap (reclaim_of c.args.self.now.block) (sym c.reclaim_next.ensures.value ∙ c.in-None.is) ∙ ap (finished c.args.self.now.block) (sym c.nothing.ensures)

pub returns-in_err-outcome-in-Some-clause-err : goal.returns-in_err-outcome-in-Some-clause-err
returns-in_err-outcome-in-Some-clause-err g c = MatchResult-from_err c.from_residual.result _ _ c.from_residual.ensures.0 (λ _. c.in_err-outcome-in-Some.ensures.err)

pub returns-in_err-outcome-in-Some-clause-flash : goal.returns-in_err-outcome-in-Some-clause-flash
returns-in_err-outcome-in-Some-clause-flash g c = c.end_region.ensures.flash

pub returns-in_err-outcome-in-Some-clause-ok : goal.returns-in_err-outcome-in-Some-clause-ok
returns-in_err-outcome-in-Some-clause-ok g c = IfOk-from_err c.from_residual.result _ c.from_residual.ensures.0

pub returns-in_ok-outcome-in-Some-clause-err : goal.returns-in_ok-outcome-in-Some-clause-err
returns-in_ok-outcome-in-Some-clause-err g c = tt

pub returns-in_ok-outcome-in-Some-clause-flash : goal.returns-in_ok-outcome-in-Some-clause-flash
returns-in_ok-outcome-in-Some-clause-flash g c = c.end_region.ensures.flash

pub returns-in_ok-outcome-in-Some-clause-ok : goal.returns-in_ok-outcome-in-Some-clause-ok
returns-in_ok-outcome-in-Some-clause-ok g c =
    let over = ap (λ (m : Moved). record m { outcome = record m.outcome { reclaimed = Some c.in-Some.r } }) c.in_ok-outcome-in-Some.ensures.ok in
    reclaim_by_choice c.args.self.now.flash c.args.self.now.block ∙ ap (reclaim_of c.args.self.now.block) (sym c.reclaim_next.ensures.value ∙ c.in-Some.is) ∙ over ∙ ap (finished c.end_region.new.self.block) (sym c.reclaimed.ensures)
