use Rattle.std.proofs.Common.{sym, ◌∙◌}
use Rattle.hc_memory.proofs.Books.{position_entries}
use Rattle.hc_memory.proofs.open.OpenCharges.place_at.Goals as goal

pub returns : goal.returns
returns g c = rw (← c.self.view_is) (c.get_index_of.ensures.index ∙ sym (position_entries c.args.number c.self.inside.charges.entries))
