-- A configuration that isn't refused is within the limits of the small engine.
use Rattle.std.proofs.Common.{◌≡◌, Bool, true, false, not, Option, Some, None}
use Rattle.std.specs.Prelude.{if◌then◌else◌}
use Rattle.hc_types.specs.Config.{Config}
use Rattle.hc_types.specs.Limits.{pools_fit, wrong_behind, first_wrong}
use Rattle.hc_types.specs.declared.config.FlashConfig.{FlashConfig}
use Rattle.hc_types.specs.declared.refusal.Refusal.{Refusal}
use Rattle.hc_types.specs.declared.refusal.Refusal.TheVariants.{BadPool}
use Rattle.hc_invariant.specs.Good.{FlashLimits, CanRun}
use Rattle.hc_engines.proofs.small.Limited.{limits_from}

behind : (o : Option Refusal) (b : Bool) → (if not b then Some BadPool else o) ≡ None → o ≡ None
behind o true h = h
behind o false h = absurd cc

limits : (flash : Option FlashConfig) → wrong_behind flash ≡ None → FlashLimits flash
limits None h = tt
limits (Some flash) h = limits_from flash h

pub can_run : (config : Config) → first_wrong config ≡ None → CanRun config
can_run config h = record { right = h; limits = limits config.flash (behind (wrong_behind config.flash) (pools_fit config.pools) h) }
