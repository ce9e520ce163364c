-- What a configuration says of its flash where no number is refused.
use Rattle.std.proofs.Common.{◌≡◌, Bool, true, false, not, Option, Some, None, if◌then◌else◌}
use Rattle.std.specs.Prelude.{IfSome}
use Rattle.hc_judge_device.specs.Limits.{IsLimited}
use Rattle.hc_types.specs.Config.{Config}
use Rattle.hc_types.specs.Limits.{pools_fit, flash_wrong, wrong_behind, first_wrong}
use Rattle.hc_types.specs.declared.config.FlashConfig.{FlashConfig}
use Rattle.hc_types.specs.declared.refusal.Refusal.TheVariants.{BadPool}

limited : (b : Bool) (o : Option FlashConfig) → (if not b then Some BadPool else wrong_behind o) ≡ None → ((flash : FlashConfig) → flash_wrong flash ≡ None → IsLimited flash) → IfSome o IsLimited
limited true (Some flash) h law = law flash h
limited true None h law = tt
limited false o h law = absurd cc

pub flash-limited : (config : Config) → first_wrong config ≡ None → ((flash : FlashConfig) → flash_wrong flash ≡ None → IsLimited flash) → IfSome config.flash IsLimited
flash-limited config h law = limited (pools_fit config.pools) config.flash h law
