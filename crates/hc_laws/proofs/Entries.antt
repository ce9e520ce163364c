-- The bytes of an entry of a region against values that were worked out by hand.
use Rattle.std.proofs.Common.{◌≡◌, ℕ, List, [], ◌∷◌, map, Some, None, refl}
use Rattle.std.specs.Prelude.{codes, replicate}
use Rattle.hc_types.specs.FlashEntry.{FlashEntry}
use Rattle.hc_engines.specs.large.Entries.{entry_bytes, entry_in}

-- the key `a` with the value `xxxx`, which expires at second 15
abbrev worked : FlashEntry
worked = record { key = codes "a"; value = codes "xxxx"; pool = 0; expiry = 15 }

-- its bytes, but for the lengths of key and value, and what stands behind the expiry
abbrev spelled : ℕ → ℕ → List ℕ → List ℕ
spelled key value rest = key ∷ 0 ∷ 0 ∷ 0 ∷ 0 ∷ value ∷ 0 ∷ 0 ∷ 0 ∷ 0 ∷ 0 ∷ 0 ∷ 0 ∷ 15 ∷ rest

pub worked_is_spelled : entry_bytes worked ≡ spelled 1 4 (codes "axxxx")
worked_is_spelled = refl

pub worked_is_read : entry_in (spelled 1 4 (codes "axxxx")) ≡ Some worked
worked_is_read = refl

-- a byte less, one more, a value of another length, a key of no byte, and less than the numbers at the front
pub what_is_no_entry_is_refused : map entry_in
    (spelled 1 4 (codes "axxx")
    ∷ spelled 1 4 (codes "axxxxx")
    ∷ spelled 1 5 (codes "axxxx")
    ∷ spelled 0 5 (codes "axxxx")
    ∷ (1 ∷ 0 ∷ 0 ∷ [])
    ∷ []
    ∷ []) ≡ replicate 6 None
what_is_no_entry_is_refused = refl
