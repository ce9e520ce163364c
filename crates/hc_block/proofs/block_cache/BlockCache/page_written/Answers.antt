use Rattle.std.proofs.Common.{◌∙◌, sym}
use Rattle.hc_engines.specs.large.Block.{finished, end_job}
use Rattle.hc_region.specs.declared.status.Stage.TheVariants as stages
use Rattle.hc_block.proofs.Settling.{settled_done}
use Rattle.std.proofs.lemmas.Result.{IfOk-from_err, MatchResult-from_err}
use Rattle.hc_block.proofs.block_cache.BlockCache.page_written.Goals as goal

pub returns-in_ok-settle-in-Last-clause-ok : goal.returns-in_ok-settle-in-Last-clause-ok
returns-in_ok-settle-in-Last-clause-ok g c = λ bytes. settled_done c.args.self.now.flash c.args.number c.args.r stages.Last (end_job c.args.number c.args.self.now.block) c.settle.new.self.block c.settled.result (sym c.stage.ensures.value ∙ c.in-Last.is) (λ i. finished (c.in_ok-settle-in-Last.ensures.ok i) (sym c.settled.ensures i))

pub returns-in_ok-settle-in-Early-clause-ok : goal.returns-in_ok-settle-in-Early-clause-ok
returns-in_ok-settle-in-Early-clause-ok g c = λ bytes. settled_done c.args.self.now.flash c.args.number c.args.r stages.Early (end_job c.args.number c.args.self.now.block) c.settle-in-Early.new.self.block c.settled-in-Early.result (sym c.stage.ensures.value ∙ c.in-Early.is) (λ i. finished (c.in_ok-settle-in-Early.ensures.ok i) (sym c.settled-in-Early.ensures i))

pub returns-in_err-order-in-More-clause-err : goal.returns-in_err-order-in-More-clause-err
returns-in_err-order-in-More-clause-err g c = MatchResult-from_err c.from_residual.result _ _ c.from_residual.ensures.0 (λ _. c.in_err-order-in-More.ensures.err)

pub returns-in_err-order-in-More-clause-flash : goal.returns-in_err-order-in-More-clause-flash
returns-in_err-order-in-More-clause-flash g c = c.go_on.ensures.flash

pub returns-in_err-order-in-More-clause-ok : goal.returns-in_err-order-in-More-clause-ok
returns-in_err-order-in-More-clause-ok g c = IfOk-from_err c.from_residual.result _ c.from_residual.ensures.0

pub returns-in_err-settle-in-Early-clause-err : goal.returns-in_err-settle-in-Early-clause-err
returns-in_err-settle-in-Early-clause-err g c = MatchResult-from_err c.from_residual-in_err-settle-in-Early.result _ _ c.from_residual-in_err-settle-in-Early.ensures.0 (λ _. c.in_err-settle-in-Early.ensures.err)

pub returns-in_err-settle-in-Early-clause-flash : goal.returns-in_err-settle-in-Early-clause-flash
returns-in_err-settle-in-Early-clause-flash g c = c.settle-in-Early.ensures.flash

pub returns-in_err-settle-in-Early-clause-ok : goal.returns-in_err-settle-in-Early-clause-ok
returns-in_err-settle-in-Early-clause-ok g c = IfOk-from_err c.from_residual-in_err-settle-in-Early.result _ c.from_residual-in_err-settle-in-Early.ensures.0

pub returns-in_err-settle-in-Last-clause-err : goal.returns-in_err-settle-in-Last-clause-err
returns-in_err-settle-in-Last-clause-err g c = MatchResult-from_err c.from_residual-in_err-settle-in-Last.result _ _ c.from_residual-in_err-settle-in-Last.ensures.0 (λ _. c.in_err-settle-in-Last.ensures.err)

pub returns-in_err-settle-in-Last-clause-flash : goal.returns-in_err-settle-in-Last-clause-flash
returns-in_err-settle-in-Last-clause-flash g c = c.settle.ensures.flash

pub returns-in_err-settle-in-Last-clause-ok : goal.returns-in_err-settle-in-Last-clause-ok
returns-in_err-settle-in-Last-clause-ok g c = IfOk-from_err c.from_residual-in_err-settle-in-Last.result _ c.from_residual-in_err-settle-in-Last.ensures.0

pub returns-in_ok-order-in-More-clause-err : goal.returns-in_ok-order-in-More-clause-err
returns-in_ok-order-in-More-clause-err g c = tt

pub returns-in_ok-order-in-More-clause-flash : goal.returns-in_ok-order-in-More-clause-flash
returns-in_ok-order-in-More-clause-flash g c = c.go_on.ensures.flash

pub returns-in_ok-settle-in-Early-clause-err : goal.returns-in_ok-settle-in-Early-clause-err
returns-in_ok-settle-in-Early-clause-err g c = tt

pub returns-in_ok-settle-in-Early-clause-flash : goal.returns-in_ok-settle-in-Early-clause-flash
returns-in_ok-settle-in-Early-clause-flash g c = c.settle-in-Early.ensures.flash

pub returns-in_ok-settle-in-Last-clause-err : goal.returns-in_ok-settle-in-Last-clause-err
returns-in_ok-settle-in-Last-clause-err g c = tt

pub returns-in_ok-settle-in-Last-clause-flash : goal.returns-in_ok-settle-in-Last-clause-flash
returns-in_ok-settle-in-Last-clause-flash g c = c.settle.ensures.flash
