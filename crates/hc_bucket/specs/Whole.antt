-- Bytes that are entries and nothing else, as code keeps them.
use Rattle.std.specs.Prelude.{◌≡◌, ℕ, ◌<◌, ◌%◌, ◌^◌, List, [], Option, Some, None, get_or}
use Rattle.std.specs.List.{AllByRecursion}
use Rattle.hc_types.specs.Digest.{digest_of}
use Rattle.hc_types.specs.FlashEntry.{FlashEntry}
use Rattle.hc_bucket.specs.Page.{entries_bytes, IsSmall}
use Rattle.hc_bucket.specs.Reading.{entries_at}

abbrev pub read_of : Option (List FlashEntry × List ℕ) → List FlashEntry
read_of None = []
read_of (Some read) = read.0

-- the entries of these bytes, so many
abbrev pub all_at : ℕ → List ℕ → List FlashEntry
all_at count bytes = read_of (entries_at count bytes)

-- the bytes are so many entries, and nothing else
pub record IsWhole (count : ℕ) (bytes : List ℕ) : Type 0 where
  pub fits : (i : ℕ) → get_or bytes i 0 < 256
  pub read : entries_at count bytes ≡ Some (all_at count bytes, [])
  pub spelled : bytes ≡ entries_bytes (all_at count bytes)
  pub each : AllByRecursion IsSmall (all_at count bytes)

-- the one of 64 bits that a key sets
unfoldable pub mark_at : List ℕ → ℕ
mark_at key = 2 ^ (digest_of key % 64)
