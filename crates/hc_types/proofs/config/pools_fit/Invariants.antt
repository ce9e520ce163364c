use Rattle.std.proofs.Common.{◌≡◌, drop}
use Rattle.hc_types.specs.Limits.{all_fit}
use Rattle.hc_types.proofs.config.pools_fit.Given as goal

-- all fit where the pools that are left do
abbrev pub invariant-loop-pool : goal.invariant-loop-pool
invariant-loop-pool l = all_fit (drop l.pool-index l.pools) ≡ all_fit l.pools
