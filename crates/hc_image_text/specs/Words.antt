-- The word of a bucket, where it has one.
use Rattle.std.specs.Prelude.{◌≡◌, ℕ, ◌<◌, ◌^◌, ◌==◌, ◌&&◌, List, [], ◌∷◌, length, Option, Some, None, if◌then◌else◌}
use Rattle.std.specs.Int.{w64, to_be_bytes, from_be_bytes}

abbrev pub FitsWord : Option ℕ → Type 0
FitsWord word = (n : ℕ) → word ≡ Some n → n < 2 ^ 64

abbrev pub word_bytes : Option ℕ → List ℕ
word_bytes None = 0 ∷ to_be_bytes w64 0
word_bytes (Some n) = 1 ∷ to_be_bytes w64 n

-- none has zeros in its place
abbrev pub word_of : ℕ → ℕ → Option (Option ℕ)
word_of there n = if there == 1 then Some (Some n) else (if (there == 0) && (n == 0) then Some None else None)

abbrev pub word_in : List ℕ → Option (Option ℕ)
word_in [] = None
word_in (there ∷ bytes) = if length bytes == 8 then word_of there (from_be_bytes w64 bytes) else None

abbrev pub WordReadsBack : Type 0
WordReadsBack = (word : Option ℕ) → FitsWord word → word_in (word_bytes word) ≡ Some word
