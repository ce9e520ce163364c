use Rattle.std.proofs.Common.{sym, ap, ◌∙◌}
use Rattle.std.specs.Option.{option_copied}
use Rattle.hc_memory.proofs.Grouped.{items_in, lookup-is}
use Rattle.hc_memory.proofs.groups.KeyGroups.keys.Goals as goal

pub returns-in-Some : goal.returns-in-Some
returns-in-Some g c = rw (← c.self.view_is) (c.as_slice.ensures.value ∙ ap items_in (sym (ap option_copied c.in-Some.is) ∙ c.get.ensures.value) ∙ lookup-is c.args.place c.self.inside.groups.entries)

pub returns-in-None : goal.returns-in-None
returns-in-None g c = rw (← c.self.view_is) (ap items_in (sym (ap option_copied c.in-None.is) ∙ c.get.ensures.value) ∙ lookup-is c.args.place c.self.inside.groups.entries)
