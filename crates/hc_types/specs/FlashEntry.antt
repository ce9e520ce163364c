-- An entry as flash has it: on a page of a bucket, or in a region.
use Rattle.std.specs.Prelude.{ℕ, List, map}
use Rattle.hc_types.specs.declared.entry.Entry.{Entry}

-- an entry, apart from where it lies in memory
pub record FlashEntry : Type 0 where
  pub key : List ℕ
  pub value : List ℕ
  pub pool : ℕ
  pub expiry : ℕ

abbrev pub entry_of : {A : Type 0} → Entry A → FlashEntry
entry_of e = record { key = e.key; value = e.value; pool = e.pool; expiry = e.expiry }

abbrev pub entries_of : {A : Type 0} → List (Entry A) → List FlashEntry
entries_of es = map entry_of es
