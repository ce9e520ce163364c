-- Notes that tell nothing of regions leave the large engine and its books as they were.
use Rattle.std.proofs.Common.{◌≡◌, ℕ, ◌<◌, false, Option, Some, None, refl, arith}
use Rattle.std.proofs.lemmas.Grind.{common_steps}
use Rattle.std.specs.Prelude.{nat_le}
use Rattle.hc_types.specs.declared.config.FlashConfig.{FlashConfig}
use Rattle.hc_history.specs.Regions.{unless_page_of}

below : (a b : ℕ) → a < b → nat_le b a ≡ false
below a b lt = grind (arith, common_steps)

pub stays_open : (flash : FlashConfig) (page : ℕ) (o : Option ℕ) → page < flash.buckets → unless_page_of flash page o ≡ o
stays_open flash page None lt = refl
stays_open flash page (Some r) lt = rw (below page flash.buckets lt) refl
