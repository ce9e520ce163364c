-- A number of 64 bits, highest byte first, as all numbers of an image: the digest of a page, or the count of stamps.
use Rattle.std.specs.Prelude.{◌≡◌, ℕ, ◌<◌, ◌^◌, ◌==◌, List, length, Option, Some, None, if◌then◌else◌}
use Rattle.std.specs.Int.{w64, to_be_bytes, from_be_bytes}

abbrev pub number_bytes : ℕ → List ℕ
number_bytes n = to_be_bytes w64 n

abbrev pub number_in : List ℕ → Option ℕ
number_in bytes = if length bytes == 8 then Some (from_be_bytes w64 bytes) else None

abbrev pub NumberReadsBack : Type 0
NumberReadsBack = (n : ℕ) → n < 2 ^ 64 → number_in (number_bytes n) ≡ Some n
