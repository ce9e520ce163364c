use Rattle.std.proofs.Common.{◌≡◌, ◌++◌, ◌-◌, replicate}
use Rattle.hc_engines.specs.large.Region.{clean_region}
use Rattle.hc_region.proofs.filling.fill.Given as goal

-- with those that are still to come, there are as many more
abbrev pub invariant-loop : goal.invariant-loop
invariant-loop g l = l.regions.items ++ replicate (l.n - l.counter) clean_region ≡ l.initial.regions.items ++ replicate l.n clean_region
