-- A page that is to be written, as its bytes tell.
use Rattle.std.specs.Prelude.{◌≡◌, ℕ, ◌-◌, ◌≤◌, List, length, take, drop}
use Rattle.hc_types.specs.FlashEntry.{FlashEntry}
use Rattle.hc_bucket.specs.Page.{page_bytes}
use Rattle.hc_bucket.specs.Reading.{page_at}
use Rattle.hc_engines.specs.small.Bloom.{word_of}
use Rattle.hc_engines.specs.small.Held.{read_in}

-- the entries of a page of any size
abbrev pub entries_on : List ℕ → List FlashEntry
entries_on bytes = read_in (page_at (length bytes) bytes)

-- the bytes are a page, and the word is that of its keys
pub record IsNewPage (bytes : List ℕ) (word : ℕ) : Type 0 where
  pub spelled : bytes ≡ page_bytes (length bytes) (entries_on bytes)
  pub word_is : word ≡ word_of (entries_on bytes)

-- this value of a page ends at this byte
pub record IsValueAt (page : List ℕ) (end : ℕ) (value : List ℕ) : Type 0 where
  pub long : length value ≤ end
  pub inside : end ≤ length page
  pub is : take (length value) (drop (end - length value) page) ≡ value
