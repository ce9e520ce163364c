use Rattle.std.proofs.Common.{None}
use Rattle.hc_memory.proofs.Grouped.{put-is}
use Rattle.hc_memory.proofs.groups.KeyGroups.remove_all.Goals as goal

pub returns : goal.returns
returns g c = rw (← c.self.view_is) (put-is c.args.place c.self.inside.groups.entries c.remove.new.self.entries None c.remove.ensures.updates.0)
