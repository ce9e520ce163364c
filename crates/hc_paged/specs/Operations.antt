-- What the devices of this crate say of their operations.
use Rattle.std.specs.Prelude.{◌≡◌, ℕ, List, Some, None}
use Rattle.hc_flash.specs.Operations.{Order, Read, Write, IoResult, Page, Written, Failed}
use Rattle.hc_paged.specs.Devices.{mark_at}

-- what is known of the other pages is as it was
abbrev pub OthersStay : List ℕ → ℕ → List ℕ → Type 0
OthersStay before page after = (other : ℕ) → ¬ (other ≡ page) → mark_at after other ≡ mark_at before other

-- a device with digests answers a page that has the digest which is kept, keeps that of a page as it is written, and
-- forgets that of one whose write failed
abbrev pub GivesMarked : (List ℕ → ℕ) → List ℕ → Order → IoResult → List ℕ → Type 0
GivesMarked of before (Read page) (Page bytes) after = (mark_at before page ≡ Some (of bytes)) × (after ≡ before)
GivesMarked of before (Read page) Failed after = after ≡ before
GivesMarked of before (Write page bytes) Written after = (mark_at after page ≡ Some (of bytes)) × OthersStay before page after
GivesMarked of before (Write page bytes) Failed after = (mark_at after page ≡ None) × OthersStay before page after
GivesMarked of before order came after = ⊥
