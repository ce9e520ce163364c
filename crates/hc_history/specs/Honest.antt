-- When the device told no lie.
use Rattle.std.specs.Prelude.{◌≡◌, ℕ, List, [], ◌∷◌, Some}
use Rattle.hc_history.specs.Note.{Note, Read}
use Rattle.hc_history.specs.Pages.{bytes_at}

-- a read that succeeds, of a page that is known, has the page's bytes
abbrev pub IsTrueRead : List Note → Note → Type 0
IsTrueRead older (Read page (Some bytes)) = (known : List ℕ) → bytes_at older page ≡ Some known → bytes ≡ known
IsTrueRead older note = Unit {0}

-- each read is true at its place
abbrev pub HonestAfter : List Note → List Note → Type 0
HonestAfter older [] = Unit {0}
HonestAfter older (note ∷ rest) = IsTrueRead older note × HonestAfter (note ∷ older) rest

abbrev pub Honest : List Note → Type 0
Honest log = HonestAfter [] log
