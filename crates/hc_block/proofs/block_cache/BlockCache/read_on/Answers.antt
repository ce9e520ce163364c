use Rattle.std.proofs.Common.{◌≡◌, ◌∙◌, refl, ap, sym, subst}
use Rattle.hc_engines.specs.large.Block.{Block, Getting, with_job, end_job}
use Rattle.hc_block.specs.Large.{Large, Kept}
use Rattle.hc_block.specs.Reads.{CanReadOn}
use Rattle.hc_block.proofs.Leaving.{on_is}
use Rattle.std.proofs.lemmas.Result.{IfOk-from_err, MatchResult-from_err}
use Rattle.hc_engines.specs.large.Unread.{read_on}
use Rattle.hc_block.specs.Works.{reading_at}
use Rattle.hc_block.proofs.block_cache.BlockCache.read_on.Goals as goal

pub invariant_of-self-2 : goal.invariant_of-self-2
invariant_of-self-2 g c =
    let s : Block = record { regions = c.self.inside.regions.items; current = c.self.inside.current; sealed = c.self.inside.sealed.items; flushed = c.self.inside.flushed.items; index = c.self.inside.index; jobs = c.self.inside.jobs } in
    let can = subst (λ (x : Large). CanReadOn x.flash c.args.number x.block) (sym c.self.view_is) c.requires in (
      subst (λ (t : Block). Kept c.self.inside.flash t) (on_is c.self.inside.flash c.args.number s c.args.page.now c.take_page.new.self c.in_ok-take_page.ensures.ok) (can.kept c.args.page.now),
      c.self.invariant.1,
    )

pub invariant_of-self : goal.invariant_of-self
invariant_of-self g c = rw c.in_err-take_page.ensures.err c.self.invariant

pub returns-clause-err : goal.returns-clause-err
returns-clause-err g c = tt

pub returns-clause-flash : goal.returns-clause-flash
returns-clause-flash g c = ap (λ (x : Large). x.flash) c.self.view_is

pub returns-clause-ok : goal.returns-clause-ok
returns-clause-ok g c =
    let s : Block = record { regions = c.self.inside.regions.items; current = c.self.inside.current; sealed = c.self.inside.sealed.items; flushed = c.self.inside.flushed.items; index = c.self.inside.index; jobs = c.self.inside.jobs } in
    let u : Block = record s { jobs = c.take_page.new.self } in
    subst (λ (x : Large). with_job c.args.number (Getting (read_on (reading_at c.args.number x.block.jobs) c.args.page.now)) (end_job c.args.number x.block) ≡ u) c.self.view_is
    (on_is c.self.inside.flash c.args.number s c.args.page.now c.take_page.new.self c.in_ok-take_page.ensures.ok)

pub returns-in_err-take_page-clause-err : goal.returns-in_err-take_page-clause-err
returns-in_err-take_page-clause-err g c =
    let s : Block = record { regions = c.self.inside.regions.items; current = c.self.inside.current; sealed = c.self.inside.sealed.items; flushed = c.self.inside.flushed.items; index = c.self.inside.index; jobs = c.self.inside.jobs } in
    let u : Block = record s { jobs = c.take_page.new.self } in
    let same : u ≡ s = rw c.in_err-take_page.ensures.err refl in
    let large : Block → Large = λ b. record { flash = c.self.inside.flash; block = b } in
    MatchResult-from_err c.from_residual.result _ _ c.from_residual.ensures.0 (λ _. ap large same ∙ c.self.view_is)

pub returns-in_err-take_page-clause-flash : goal.returns-in_err-take_page-clause-flash
returns-in_err-take_page-clause-flash g c = ap (λ (x : Large). x.flash) c.self.view_is

pub returns-in_err-take_page-clause-ok : goal.returns-in_err-take_page-clause-ok
returns-in_err-take_page-clause-ok g c = IfOk-from_err c.from_residual.result _ c.from_residual.ensures.0

pub take_page-requires-clause-reading : goal.take_page-requires-clause-reading
take_page-requires-clause-reading g c = (subst (λ (x : Large). CanReadOn x.flash c.args.number x.block) (sym c.self.view_is) c.requires).read

pub take_page-requires-clause-small : goal.take_page-requires-clause-small
take_page-requires-clause-small g c = (subst (λ (x : Large). CanReadOn x.flash c.args.number x.block) (sym c.self.view_is) c.requires).small
