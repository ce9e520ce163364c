-- The large engine as contracts see it: its configuration and its machine's state.
use Rattle.std.specs.Prelude.{◌≡◌, ℕ, ◌<◌, ◌≤◌, false, nat_eq, List, length, Option, Some, IfSome}
use Rattle.std.specs.List.{IsDistinct}
use Rattle.hc_types.specs.declared.config.FlashConfig.{FlashConfig}
use Rattle.hc_engines.specs.large.Region.{Region, region_len, filled_to, is_clean, region_at, lowest_clean}
use Rattle.hc_engines.specs.large.Block.{Block}
use Rattle.hc_engines.specs.large.Sound.{Sound}
use Rattle.hc_engines.specs.large.Within.{AllWithin}
use Rattle.hc_region.specs.CleanNumbers.{clean_from}

pub record Large : Type 0 where
  pub flash : FlashConfig
  pub block : Block

-- the numbers of the configuration that the engine goes by, within their limits
pub record Limits (flash : FlashConfig) : Type 0 where
  pub least_page : 512 ≤ flash.page
  pub most_page : flash.page ≤ 4096
  pub regions : flash.regions ≤ 65536
  pub some_page : 1 ≤ flash.region_pages
  pub most_pages : flash.region_pages ≤ 4096
  pub region_len : region_len flash ≤ 16777216
  pub buckets : flash.buckets ≤ 1048576
  pub bits : flash.bits ≤ 64

-- what holds at all times, whatever the device answers
pub record Kept (flash : FlashConfig) (s : Block) : Type 0 where
  pub limits : Limits flash
  pub count : length s.regions ≡ flash.regions
  pub filled : AllWithin flash s
  pub sound : Sound flash s
  -- no region waits twice
  pub sealed_once : IsDistinct nat_eq s.sealed
  pub flushed_once : IsDistinct nat_eq s.flushed

-- and the numbers of the clean regions are listed
abbrev pub IsKept : FlashConfig → Block → List ℕ → Type 0
IsKept flash s clean = Kept flash s × (clean ≡ clean_from 0 s.regions)

-- so many bytes can go behind what the region has
pub record HasRoom (flash : FlashConfig) (regions : List Region) (r more : ℕ) : Type 0 where
  pub there : r < length regions
  pub small : filled_to flash (region_at r regions) ≤ 16777216
  pub short : more ≤ 16777216

-- this region can be opened, and so many bytes put into it
pub record CanOpen (flash : FlashConfig) (regions : List Region) (current : Option ℕ) (r more : ℕ) : Type 0 where
  pub current_there : IfSome current (λ c. c < length regions)
  pub current_in_use : IfSome current (λ c. is_clean (region_at c regions).status ≡ false)
  pub there : r < length regions
  pub lowest : lowest_clean 0 regions ≡ Some r
  pub short : more ≤ 16777216
