-- Fresh buckets are sound.
use Rattle.std.proofs.Common.{◌≡◌, List, [], Option, None, ap, ◌∙◌, length}
use Rattle.std.specs.Prelude.{ℕ, replicate}
use Rattle.std.proofs.lemmas.List.{length-replicate}
use Rattle.hc_types.specs.declared.config.FlashConfig.{FlashConfig}
use Rattle.hc_types.specs.Limits.{flash_wrong}
use Rattle.hc_engines.specs.small.Sound.{Sound}
use Rattle.hc_engines.proofs.small.Limited.{limits_from}

pub fresh_sound : (flash : FlashConfig) (words : List (Option ℕ)) → flash_wrong flash ≡ None → words ≡ replicate flash.buckets None → Sound flash words []
fresh_sound flash words h is = record { limits = limits_from flash h; buckets = ap length is ∙ length-replicate {A = Option ℕ} flash.buckets None; ours = tt }
