use Rattle.std.proofs.Common.{◌≡◌, replicate}
use Rattle.hc_engines.specs.large.Region.{clean_region}
use Rattle.hc_region.specs.CleanNumbers.{clean_from}
use Rattle.hc_region.proofs.clean.all_clean.Given as goal

-- those below the number that is next are in it
abbrev pub invariant-loop-r : goal.invariant-loop-r
invariant-loop-r g l = l.clean ≡ clean_from 0 (replicate l.r clean_region)
