use Rattle.std.proofs.Common.{◌≡◌, drop}
use Rattle.std.specs.List.{list_all}
use Rattle.hc_region.specs.Resting.{can_rest}
use Rattle.hc_region.proofs.resting.all_rest.Given as goal

-- the rest tells what all tell
abbrev pub invariant-loop-region : goal.invariant-loop-region
invariant-loop-region g l = list_all (can_rest l.flash) (drop l.region-index l.regions) ≡ list_all (can_rest l.flash) l.regions
