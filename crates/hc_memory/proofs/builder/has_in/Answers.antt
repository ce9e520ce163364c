use Rattle.std.proofs.Common.{is_some, sym, ◌∙◌, ap}
use Rattle.hc_memory.proofs.Keyed.{is_some-mapped}
use Rattle.hc_memory.proofs.builder.has_in.Goals as goal

pub returns : goal.returns
returns g c = c.is_some.ensures ∙ sym (is_some-mapped _ c.held_in.result) ∙ ap is_some c.held_in.ensures.item
