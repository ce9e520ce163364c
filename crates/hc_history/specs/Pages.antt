-- What the notes come to on the device: pages, and the entries of buckets.
use Rattle.std.specs.Prelude.{ℕ, ◌==◌, Bool, List, [], ◌∷◌, Option, Some, None, if◌then◌else◌}
use Rattle.std.specs.List.{list_any}
use Rattle.std.specs.Str.{bytes_eq}
use Rattle.hc_types.specs.Loss as loss
use Rattle.hc_types.specs.declared.config.FlashConfig.{FlashConfig}
use Rattle.hc_types.specs.FlashEntry.{FlashEntry}
use Rattle.hc_bucket.specs.Reading.{page_at}
use Rattle.hc_history.specs.Note.{Note, Lose, Wrote}

-- a page as it was last written; nothing is known of it before, nor after a write that failed
abbrev pub bytes_at : List Note → ℕ → Option (List ℕ)
bytes_at [] page = None
bytes_at (Wrote number bytes is_written ∷ older) page = if number == page then (if is_written then Some bytes else None) else bytes_at older page
bytes_at (note ∷ older) page = bytes_at older page

-- ---- the entries of a bucket

abbrev pub listed : Option (List FlashEntry) → List FlashEntry
listed None = []
listed (Some entries) = entries

-- the entries that a page's bytes hold: none, where they are no page
abbrev pub entries_in : ℕ → List ℕ → List FlashEntry
entries_in size bytes = listed (page_at size bytes)

-- the entries of a bucket: those of its page as last written, unless the bucket was given up since
abbrev pub bucket_entries : FlashConfig → List Note → ℕ → List FlashEntry
bucket_entries flash [] bucket = []
bucket_entries flash (Wrote page bytes is_written ∷ older) bucket = if page == bucket then (if is_written then entries_in flash.page bytes else []) else bucket_entries flash older bucket
bucket_entries flash (Lose (loss.Bucket given_up) cause ∷ older) bucket = if given_up == bucket then [] else bucket_entries flash older bucket
bucket_entries flash (note ∷ older) bucket = bucket_entries flash older bucket

abbrev pub has_key : List ℕ → List FlashEntry → Bool
has_key key entries = list_any (λ (entry : FlashEntry). bytes_eq entry.key key) entries
