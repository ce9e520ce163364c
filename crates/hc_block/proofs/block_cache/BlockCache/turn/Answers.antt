use Rattle.std.proofs.Common.{◌∙◌, sym, ap, subst}
use Rattle.std.specs.Prelude.{option_map}
use Rattle.hc_engines.specs.large.Block.{Block}
use Rattle.hc_flash.specs.Seen.{result_of}
use Rattle.hc_block.specs.Large.{Large}
use Rattle.hc_block.specs.Works.{work_seen}
use Rattle.hc_block.specs.Turns.{IsTurnOf}
use Rattle.hc_block.specs.declared.turns.Turn.TheVariants as turns
use Rattle.hc_block.proofs.Turning.{turned, unknown_is}
use Rattle.hc_block.proofs.block_cache.BlockCache.turn.Goals as goal

pub returns-in-Some : goal.returns-in-Some
returns-in-Some g c =
    let s : Block = record { regions = c.self.inside.regions.items; current = c.self.inside.current; sealed = c.self.inside.sealed.items; flushed = c.self.inside.flushed.items; index = c.self.inside.index; jobs = c.self.inside.jobs } in
    subst (λ (x : Large). IsTurnOf x.flash c.args.number x.block (result_of c.args.came.now) c.turn_of.result) c.self.view_is
    (turned c.self.inside.flash c.args.number s (result_of c.args.came.now) c.turn_of.result (work_seen c.in-Some.work.now) (sym c.get.ensures ∙ ap (option_map (λ w. work_seen w.now)) c.in-Some.is) c.turn_of.ensures)

pub returns-in-None : goal.returns-in-None
returns-in-None g c =
    let s : Block = record { regions = c.self.inside.regions.items; current = c.self.inside.current; sealed = c.self.inside.sealed.items; flushed = c.self.inside.flushed.items; index = c.self.inside.index; jobs = c.self.inside.jobs } in
    subst (λ (x : Large). IsTurnOf x.flash c.args.number x.block (result_of c.args.came.now) turns.Unknown) c.self.view_is
    (unknown_is c.self.inside.flash c.args.number s (result_of c.args.came.now) (sym c.get.ensures ∙ ap (option_map (λ w. work_seen w.now)) c.in-None.is))
