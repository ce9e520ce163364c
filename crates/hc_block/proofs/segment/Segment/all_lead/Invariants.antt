use Rattle.std.proofs.Common.{◌≡◌}
use Rattle.std.specs.List.{list_all}
use Rattle.hc_block.specs.Indexes.{pairs_of}
use Rattle.hc_block.specs.Resting.{leads_well}
use Rattle.hc_block.proofs.segment.Segment.all_lead.Given as goal

-- the rest tells what all tell
abbrev pub invariant-loop-hash : goal.invariant-loop-hash
invariant-loop-hash g l = list_all (leads_well l.flash l.regions) (pairs_of l.hash-iterator) ≡ list_all (leads_well l.flash l.regions) l.self
