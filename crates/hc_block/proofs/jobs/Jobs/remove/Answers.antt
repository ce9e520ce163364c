use Rattle.std.proofs.Common.{ap, ◌∙◌}
use Rattle.hc_block.specs.Works.{jobs_of}
use Rattle.hc_block.proofs.Works.{remove-is}
use Rattle.hc_block.proofs.jobs.Jobs.remove.Goals as goal

pub returns : goal.returns
returns g c = rw (← c.self.view_is) (ap jobs_of c.remove.ensures.entries ∙ remove-is c.args.number c.self.inside.works.entries c.len-len.ensures.ordered)
