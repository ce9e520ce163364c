-- The first lie of a device in a log.
use Rattle.std.specs.Prelude.{◌≡◌, ℕ, ◌+◌, Bool, false, not, List, ◌∷◌, ◌++◌, length, Option, Some, None}
use Rattle.std.specs.Str.{bytes_eq}
use Rattle.hc_history.specs.Note.{Note, Read}
use Rattle.hc_history.specs.Pages.{bytes_at}
use Rattle.hc_history.specs.Lawful.{past}
use Rattle.hc_history.specs.Honest.{IsTrueRead, HonestAfter}

-- the first read that isn't true stands at this place, counted from 0; none does, where there is no place
abbrev pub IsFirstLie : List Note → List Note → Option ℕ → Type 0
IsFirstLie older log None = HonestAfter older log
IsFirstLie older log (Some place) = (front : List Note) × ((note : Note) × ((rest : List Note) × ((log ≡ front ++ note ∷ rest) × (length older + length front ≡ place) × HonestAfter older front × (IsTrueRead (past older front) note → ⊥))))

-- ---- how it is found

abbrev pub differs : Option (List ℕ) → List ℕ → Bool
differs None bytes = false
differs (Some known) bytes = not (bytes_eq bytes known)

-- a read that succeeded has other bytes than were last written there
abbrev pub is_lie : List Note → Note → Bool
is_lie older (Read page (Some bytes)) = differs (bytes_at older page) bytes
is_lie older note = false

-- what each page was last written with
abbrev pub AreKnown : (ℕ → Option (List ℕ)) → List Note → Type 0
AreKnown pages older = (page : ℕ) → pages page ≡ bytes_at older page
