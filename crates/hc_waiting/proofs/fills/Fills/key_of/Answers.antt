-- The map leads to the key.
use Rattle.std.proofs.Common.{◌∙◌}
use Rattle.hc_waiting.proofs.fills.Fills.key_of.Goals as goal

pub returns : goal.returns
returns g c = rw (← c.self.view_is) (c.get.ensures.value ∙ c.self.invariant.4.leads c.args.number)
