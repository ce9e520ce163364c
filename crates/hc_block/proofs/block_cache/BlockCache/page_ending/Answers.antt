use Rattle.std.proofs.Common.{◌∙◌, Some, sym, ap}
use Rattle.std.specs.Prelude.{option_map, is_some}
use Rattle.hc_engines.specs.large.Block.{Moved}
use Rattle.hc_engines.specs.Seen.{answer_of}
use Rattle.hc_flash.specs.Seen.{result_of}
use Rattle.hc_block.proofs.Leaving.{page_ends}
use Rattle.hc_block.proofs.block_cache.BlockCache.page_ending.Goals as goal

pub returns : goal.returns
returns g c =
    let ends = c.in_ok-ending.ensures in (
      ends.can,
      c.requires.2 c.in-Page.page (ap result_of c.in-Page.is) ∙ ap (λ (m : Moved). Some m)
          (page_ends c.args.self.now.flash c.args.number c.args.self.now.block c.in-Page.page (option_map answer_of c.in_ok-came.came) c.in_ok-ending.ending (sym (ap is_some c.read_next.ensures.value) ∙ sym c.is_some.ensures ∙ c.if-is_some.false) c.in_ok-came.ensures ends),
    )
