use Rattle.std.proofs.Common.{◌≡◌, drop}
use Rattle.std.specs.List.{list_all}
use Rattle.hc_block.specs.Indexes.{joined}
use Rattle.hc_block.specs.Resting.{leads_well}
use Rattle.hc_block.proofs.index.all_lead.Given as goal

-- the rest tells what all tell
abbrev pub invariant-loop-segment : goal.invariant-loop-segment
invariant-loop-segment g l = list_all (leads_well l.flash l.regions) (joined (drop l.segment-index l.segments)) ≡ list_all (leads_well l.flash l.regions) (joined l.segments)
