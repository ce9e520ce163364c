use Rattle.std.proofs.Common.{sym, ◌∙◌}
use Rattle.hc_engines.specs.large.Region.{region_at}
use Rattle.hc_engines.proofs.large.Lists.{minus_none}
use Rattle.hc_region.proofs.Listed.{unlisted}
use Rattle.hc_region.proofs.waiting.take_sealed_out.Goals as goal

pub returns-else-is_sealed_at : goal.returns-else-is_sealed_at
returns-else-is_sealed_at g c =
    let status = (region_at c.args.r c.args.regions.now).status in
    sym (minus_none c.args.r c.args.sealed.now.items (unlisted c.args.r c.args.sealed.now.items status c.requires.listed (sym c.is_sealed_at.ensures ∙ c.if-is_sealed_at.false)))
