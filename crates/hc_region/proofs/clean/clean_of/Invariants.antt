use Rattle.std.proofs.Common.{◌≡◌, take}
use Rattle.hc_region.specs.CleanNumbers.{clean_from}
use Rattle.hc_region.proofs.clean.clean_of.Given as goal

-- the clean ones below the number that is next are in it
abbrev pub invariant-loop-r : goal.invariant-loop-r
invariant-loop-r g l = l.clean ≡ clean_from 0 (take l.r l.regions)
