use Rattle.std.proofs.Common.{ap, ◌∙◌, List}
use Rattle.std.specs.List.{list_all}
use Rattle.hc_engines.specs.large.Index.{Indexed}
use Rattle.hc_block.specs.Indexes.{joined}
use Rattle.hc_block.specs.Resting.{leads_well}
use Rattle.hc_block.proofs.index.Index.all_lead.Goals as goal

pub returns : goal.returns
returns g c = rw (← c.self.view_is) (c.all_lead.ensures ∙ ap (λ (segments : List (List Indexed)). list_all (leads_well c.args.flash.now c.args.regions.now) (joined segments)) c.deref.ensures.value)
