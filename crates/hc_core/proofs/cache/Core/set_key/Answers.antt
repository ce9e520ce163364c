use Rattle.std.proofs.Common.{sym, ◌∙◌}
use Rattle.hc_core.proofs.cache.Core.set_key.Goals as goal

pub set_short-requires : goal.set_short-requires
set_short-requires g c = record { brief = sym c.is_brief.ensures ∙ c.if-is_brief.true }
