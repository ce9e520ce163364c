-- The entries of a bucket, the oldest first, and how they change.
use Rattle.std.specs.Prelude.{ℕ, ◌+◌, nat_lt, List, [], ◌∷◌, ◌++◌, length, Option, Some, None, if◌then◌else◌}
use Rattle.hc_types.specs.Loss.{Key, BucketFull}
use Rattle.hc_types.specs.FlashEntry.{FlashEntry}
use Rattle.hc_bucket.specs.Page.{entry_bytes, used}
pub use Rattle.hc_bucket.specs.Putting.{entries_without as without}
use Rattle.std.specs.Str.{bytes_eq}
use Rattle.hc_engines.specs.Engine.{Loss}

-- the entry under this key
abbrev pub under : List ℕ → List FlashEntry → Option FlashEntry
under key [] = None
under key (e ∷ es) = if bytes_eq e.key key then Some e else under key es

-- the bytes that an entry takes of a page
abbrev pub size_of : FlashEntry → ℕ
size_of e = length (entry_bytes e)

-- the oldest entries go until e fits behind the others: those that go, and those that stay
abbrev pub pushed_out : ℕ → FlashEntry → List FlashEntry → List FlashEntry
pushed_out size e [] = []
pushed_out size e (x ∷ xs) = if nat_lt size (used (x ∷ xs) + size_of e) then x ∷ pushed_out size e xs else []

abbrev pub staying : ℕ → FlashEntry → List FlashEntry → List FlashEntry
staying size e [] = []
staying size e (x ∷ xs) = if nat_lt size (used (x ∷ xs) + size_of e) then staying size e xs else x ∷ xs

-- a put: the older entry of the key goes, then the oldest ones until the new one, put last, fits
abbrev pub page_put : ℕ → FlashEntry → List FlashEntry → List FlashEntry
page_put size e es = staying size e (without e.key es) ++ e ∷ []

abbrev pub full_losses : List FlashEntry → List Loss
full_losses [] = []
full_losses (e ∷ es) = record { scope = Key e.key; cause = BucketFull } ∷ full_losses es

-- what a put pushes out is forgotten, the oldest first
abbrev pub put_losses : ℕ → FlashEntry → List FlashEntry → List Loss
put_losses size e es = full_losses (pushed_out size e (without e.key es))
