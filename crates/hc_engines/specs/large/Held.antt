-- What the engine holds, with the device's pages.
use Rattle.std.specs.Prelude.{ℕ, zero, suc, List, [], ◌++◌, take, drop, Option, Some, None, if◌then◌else◌}
use Rattle.std.specs.Str.{bytes_eq}
use Rattle.hc_types.specs.declared.config.FlashConfig.{FlashConfig}
use Rattle.hc_types.specs.Places.{kept_of}
use Rattle.hc_types.specs.FlashEntry.{FlashEntry}
use Rattle.hc_engines.specs.large.Entries.{entry_in}
use Rattle.hc_engines.specs.large.Region.{region_at, page_no}
use Rattle.hc_engines.specs.large.Index.{Place, place_at}
use Rattle.hc_engines.specs.large.Block.{Block}

abbrev pub bytes_or_none : Option (List ℕ) → List ℕ
bytes_or_none None = []
bytes_or_none (Some bytes) = bytes

-- the first n pages of the region, one after the other
abbrev pub first_pages : FlashConfig → (ℕ → Option (List ℕ)) → ℕ → ℕ → List ℕ
first_pages flash pages r zero = []
first_pages flash pages r (suc n) = first_pages flash pages r n ++ bytes_or_none (pages (page_no flash r n))

-- the bytes of a region: the pages that were written, and the buffer behind them
abbrev pub bytes_of : FlashConfig → (ℕ → Option (List ℕ)) → Block → ℕ → List ℕ
bytes_of flash pages s r = first_pages flash pages r (region_at r s.regions).written ++ (region_at r s.regions).buffer

abbrev pub bytes_at : FlashConfig → (ℕ → Option (List ℕ)) → Block → Place → List ℕ
bytes_at flash pages s place = take place.length (drop place.offset (bytes_of flash pages s place.region))

abbrev pub if_own : List ℕ → Option FlashEntry → Option FlashEntry
if_own key None = None
if_own key (Some entry) = if bytes_eq entry.key key then Some entry else None

abbrev pub read_at : FlashConfig → (ℕ → Option (List ℕ)) → Block → List ℕ → Option Place → Option FlashEntry
read_at flash pages s key None = None
read_at flash pages s key (Some place) = if_own key (entry_in (bytes_at flash pages s place))

-- the entry that is held under the key
abbrev pub held : FlashConfig → (ℕ → Option (List ℕ)) → Block → List ℕ → Option FlashEntry
held flash pages s key = read_at flash pages s key (place_at (kept_of flash.bits key) s.index)
