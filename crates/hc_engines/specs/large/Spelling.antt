-- The bytes of an entry of a region are its one spelling.
use Rattle.std.specs.Prelude.{◌≡◌, ℕ, ◌<◌, List, get_or, Some}
use Rattle.hc_types.specs.FlashEntry.{FlashEntry}
use Rattle.hc_engines.specs.large.Entries.{IsLarge, entry_bytes, entry_in}

-- bytes of which an entry is read are those that it is spelled as
abbrev pub EntryIsItsBytes : Type 0
EntryIsItsBytes = (bytes : List ℕ) (e : FlashEntry) → ((i : ℕ) → get_or bytes i 0 < 256) → entry_in bytes ≡ Some e → IsLarge e × (bytes ≡ entry_bytes e)

-- no two entries are spelled alike
abbrev pub BytesHoldOneEntry : Type 0
BytesHoldOneEntry = (d e : FlashEntry) → IsLarge d → IsLarge e → entry_bytes d ≡ entry_bytes e → d ≡ e
