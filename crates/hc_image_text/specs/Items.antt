-- An item of memory, and the key of a tombstone. A put that waits is the bytes of its entry, as a region has them.
use Rattle.std.specs.Prelude.{◌≡◌, ℕ, ◌<◌, ◌≤◌, ◌^◌, ◌==◌, nat_lt, nat_le, Bool, true, false, ◌&&◌, List, [], ◌∷◌, ◌++◌, length, take, drop, Option, Some, None, option_map, if◌then◌else◌}
use Rattle.std.specs.Int.{w64, to_be_bytes, from_be_bytes}
use Rattle.hc_types.specs.FlashEntry.{FlashEntry, entry_of}
use Rattle.hc_engines.specs.large.Entries.{IsLarge, entry_bytes, entry_in}
use Rattle.hc_image_text.specs.declared.item.KeptItem.{KeptItem}

-- the number of its charge, whether a copy stands on flash, and its entry
pub record Numbered : Type 0 where
  pub number : ℕ
  pub clean : Bool
  pub entry : FlashEntry

abbrev pub clean_byte : Bool → ℕ
clean_byte clean = if clean then 1 else 0

abbrev pub clean_in : ℕ → Option Bool
clean_in b = if b == 1 then Some true else (if b == 0 then Some false else None)

abbrev pub item_bytes : Numbered → List ℕ
item_bytes i = to_be_bytes w64 i.number ++ (clean_byte i.clean ∷ entry_bytes i.entry)

abbrev pub with_entry : ℕ → Bool → FlashEntry → Numbered
with_entry number clean entry = record { number = number; clean = clean; entry = entry }

abbrev pub item_of : {A : Type 0} → KeptItem A → Numbered
item_of item = with_entry item.number item.clean (entry_of item.entry)

-- what stands behind the number
abbrev pub item_behind : ℕ → Option Bool → List ℕ → Option Numbered
item_behind number None bytes = None
item_behind number (Some clean) bytes = option_map (with_entry number clean) (entry_in bytes)

abbrev pub marked_item : ℕ → List ℕ → Option Numbered
marked_item number [] = None
marked_item number (mark ∷ bytes) = item_behind number (clean_in mark) bytes

abbrev pub item_in : List ℕ → Option Numbered
item_in bytes = if nat_le 8 (length bytes) then marked_item (from_be_bytes w64 (take 8 bytes)) (drop 8 bytes) else None

abbrev pub ItemReadsBack : Type 0
ItemReadsBack = (i : Numbered) → i.number < 2 ^ 64 → IsLarge i.entry → item_in (item_bytes i) ≡ Some i

-- ---- the key of a tombstone

abbrev pub key_in : List ℕ → Option (List ℕ)
key_in bytes = if nat_lt 0 (length bytes) && nat_le (length bytes) 255 then Some bytes else None

abbrev pub KeyReadsBack : Type 0
KeyReadsBack = (key : List ℕ) → 1 ≤ length key → length key ≤ 255 → key_in key ≡ Some key
