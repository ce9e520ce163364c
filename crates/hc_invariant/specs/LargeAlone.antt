-- The large engine leads to large entries alone, whatever the device answers: told by the lengths of its places.
use Rattle.std.specs.Prelude.{◌≡◌, ℕ, ◌+◌, ◌<◌, ◌≤◌, true, Some}
use Rattle.hc_types.specs.declared.config.FlashConfig.{FlashConfig}
use Rattle.hc_engines.specs.large.Region.{region_at, filled_to}
use Rattle.hc_engines.specs.large.Index.{Place, place_at}
use Rattle.hc_engines.specs.large.Block.{Block}
use Rattle.hc_engines.specs.large.Sound.{is_live, is_listed}

-- a place of a large entry: longer than a small one's, within what its region is filled to, and appended there
pub record LargePlace (flash : FlashConfig) (s : Block) (hash : ℕ) (place : Place) : Type 0 where
  pub long : 14 + flash.small_max < place.length
  pub within : place.offset + place.length ≤ filled_to flash (region_at place.region s.regions)
  pub live : is_live (region_at place.region s.regions).status ≡ true
  pub listed : is_listed hash place.offset (region_at place.region s.regions).appended ≡ true

pub record LargeAlone (flash : FlashConfig) (s : Block) : Type 0 where
  pub current : (r : ℕ) → s.current ≡ Some r → is_live (region_at r s.regions).status ≡ true
  pub places : (hash : ℕ) (place : Place) → place_at hash s.index ≡ Some place → LargePlace flash s hash place
