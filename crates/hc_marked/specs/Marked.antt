-- Reads that have the digest of the page.
use Rattle.std.specs.Prelude.{◌≡◌, ℕ, true, false, List, [], ◌∷◌, Option, Some, None}
use Rattle.hc_history.specs.Note.{Note, Read, Wrote}
use Rattle.hc_history.specs.Pages.{bytes_at}
use Rattle.hc_history.specs.Honest.{Honest}

-- a read that succeeds, of a page that is known, has the page's digest
abbrev pub IsMarkedRead : (List ℕ → ℕ) → List Note → Note → Type 0
IsMarkedRead digest older (Read page (Some bytes)) = (known : List ℕ) → bytes_at older page ≡ Some known → digest bytes ≡ digest known
IsMarkedRead digest older note = Unit {0}

-- each read has it, at its place
abbrev pub MarkedAfter : (List ℕ → ℕ) → List Note → List Note → Type 0
MarkedAfter digest older [] = Unit {0}
MarkedAfter digest older (note ∷ rest) = IsMarkedRead digest older note × MarkedAfter digest (note ∷ older) rest

abbrev pub Marked : (List ℕ → ℕ) → List Note → Type 0
Marked digest log = MarkedAfter digest [] log

-- what was read hasn't the digest of the page, unless it is that page
abbrev pub IsApart : (List ℕ → ℕ) → List Note → Note → Type 0
IsApart digest older (Read page (Some bytes)) = (known : List ℕ) → bytes_at older page ≡ Some known → digest bytes ≡ digest known → bytes ≡ known
IsApart digest older note = Unit {0}

abbrev pub ApartAfter : (List ℕ → ℕ) → List Note → List Note → Type 0
ApartAfter digest older [] = Unit {0}
ApartAfter digest older (note ∷ rest) = IsApart digest older note × ApartAfter digest (note ∷ older) rest

-- no digest of a page that was read collides with that of the page that was written there last
abbrev pub NoneCollides : (List ℕ → ℕ) → List Note → Type 0
NoneCollides digest log = ApartAfter digest [] log

-- the digests that are kept
abbrev pub Marks : Type 0
Marks = ℕ → Option ℕ

-- What a device with digests does at a note, as its contract says: a read is answered where it has the digest that is kept, a
-- write keeps the digest, and one that failed forgets it. Any other note is nothing to it.
abbrev pub Keeps : (List ℕ → ℕ) → Marks → Note → Marks → Type 0
Keeps digest old (Read page (Some bytes)) new = (old page ≡ Some (digest bytes)) × ((every : ℕ) → new every ≡ old every)
Keeps digest old (Wrote page bytes true) new = (new page ≡ Some (digest bytes)) × ((other : ℕ) → ¬ (other ≡ page) → new other ≡ old other)
Keeps digest old (Wrote page bytes false) new = (new page ≡ None) × ((other : ℕ) → ¬ (other ≡ page) → new other ≡ old other)
Keeps digest old note new = (every : ℕ) → new every ≡ old every

-- the same of one note after another
abbrev pub KeepsAll : (List ℕ → ℕ) → Marks → List Note → Type 0
KeepsAll digest old [] = Unit {0}
KeepsAll digest old (note ∷ rest) = (new : Marks) × Keeps digest old note new × KeepsAll digest new rest

abbrev pub CheckedLogsAreMarked : Type 0
CheckedLogsAreMarked = (digest : List ℕ → ℕ) (log : List Note) → KeepsAll digest (λ page. None) log → Marked digest log

abbrev pub MarkedLogsAreHonest : Type 0
MarkedLogsAreHonest = (digest : List ℕ → ℕ) (log : List Note) → Marked digest log → NoneCollides digest log → Honest log
