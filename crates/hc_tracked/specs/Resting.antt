-- How many digests a core has.
use Rattle.std.specs.Prelude.{ℕ, ◌+◌, ◌*◌, min, Option, Some, None}
use Rattle.hc_types.specs.declared.config.FlashConfig.{FlashConfig}

-- How many pages the flash has: a number of 64 bits, which no flash within its limits comes near.
abbrev pub pages_in : Option FlashConfig → ℕ
pages_in None = 0
pages_in (Some flash) = min (flash.buckets + min (flash.regions * flash.region_pages) 18446744073709551615) 18446744073709551615
