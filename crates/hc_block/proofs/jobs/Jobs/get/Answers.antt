use Rattle.std.proofs.Common.{◌∙◌, ap}
use Rattle.std.specs.Prelude.{option_map}
use Rattle.hc_block.specs.Works.{work_seen}
use Rattle.hc_block.proofs.Works.{lent-is, lookup-is}
use Rattle.hc_block.proofs.jobs.Jobs.get.Goals as goal

pub returns : goal.returns
returns g c = rw (← c.self.view_is) (lent-is c.get.result ∙ ap (option_map work_seen) c.get.ensures.value ∙ lookup-is c.args.number c.self.inside.works.entries)
