-- Where a key stands on flash, and where regions are: their pages come behind those of the buckets.
use Rattle.std.specs.Prelude.{ℕ, ◌+◌, ◌-◌, ◌*◌, ◌/◌, ◌%◌, ◌^◌, ◌==◌, nat_le, ◌&&◌, Bool, List, length}
use Rattle.hc_types.specs.Fnv.{fnv_1a}
use Rattle.hc_types.specs.declared.config.FlashConfig.{FlashConfig}

-- the lowest bits of the key's hash
abbrev pub kept_of : ℕ → List ℕ → ℕ
kept_of bits key = fnv_1a key % (2 ^ bits)

abbrev pub bucket_at : FlashConfig → List ℕ → ℕ
bucket_at flash key = kept_of flash.bits key % flash.buckets

-- an item of this key and a value of this length is small
abbrev pub is_small_by : FlashConfig → List ℕ → ℕ → Bool
is_small_by flash key len = nat_le (length key + len) flash.small_max

-- how many bytes a region has
abbrev pub region_bytes : FlashConfig → ℕ
region_bytes flash = flash.page * flash.region_pages

-- the page is one of the region's
abbrev pub is_page_of : FlashConfig → ℕ → ℕ → Bool
is_page_of flash region page = nat_le flash.buckets page && ((page - flash.buckets) / flash.region_pages == region)

abbrev pub last_page : FlashConfig → ℕ → ℕ
last_page flash region = flash.buckets + region * flash.region_pages + (flash.region_pages - 1)
