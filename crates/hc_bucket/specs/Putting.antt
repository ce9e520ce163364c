-- What an entry that is put on a page pushes out: the oldest entries, until the rest and it have room.
use Rattle.std.specs.Prelude.{ℕ, nat_lt, Bool, false, List, [], ◌∷◌, ◌++◌, Option, Some, None, if◌then◌else◌}
use Rattle.std.specs.Str.{bytes_eq}
use Rattle.hc_types.specs.FlashEntry.{FlashEntry}
use Rattle.hc_bucket.specs.Page.{used}

-- the entries from the key's on
abbrev pub from_key : List ℕ → List FlashEntry → List FlashEntry
from_key key [] = []
from_key key (entry ∷ entries) = if bytes_eq entry.key key then entry ∷ entries else from_key key entries

abbrev pub last_of : List FlashEntry → Option FlashEntry
last_of [] = None
last_of (entry ∷ []) = Some entry
last_of (entry ∷ entries) = last_of entries

abbrev pub entries_without : List ℕ → List FlashEntry → List FlashEntry
entries_without key [] = []
entries_without key (entry ∷ entries) = if bytes_eq entry.key key then entries_without key entries else entry ∷ entries_without key entries

abbrev pub is_too_long : ℕ → List FlashEntry → FlashEntry → Bool
is_too_long size [] put = false
is_too_long size (entry ∷ entries) put = nat_lt size (used ((entry ∷ entries) ++ put ∷ []))

-- of a page that held these entries, the key's and those behind it don't fit together with the entry that was put last
abbrev pub is_pushed_out : ℕ → List FlashEntry → Option FlashEntry → List ℕ → Bool
is_pushed_out size was None key = false
is_pushed_out size was (Some put) key = is_too_long size (from_key key (entries_without put.key was)) put
