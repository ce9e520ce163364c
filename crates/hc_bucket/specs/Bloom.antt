-- The Bloom word of a bucket: 64 bits, of which each key on its page sets four.
use Rattle.std.specs.Prelude.{ℕ, ◌==◌, ◌/◌, ◌%◌, ◌^◌, Bool, List, [], ◌∷◌}
use Rattle.std.specs.List.{list_any, list_all}
use Rattle.hc_types.specs.Fnv.{fnv_1a}
use Rattle.hc_types.specs.FlashEntry.{FlashEntry}

-- the bits that a hash sets: each of its four lowest bytes, modulo 64
abbrev pub bits_of_hash : ℕ → List ℕ
bits_of_hash hash = hash % 64 ∷ (hash / 2 ^ 8) % 64 ∷ (hash / 2 ^ 16) % 64 ∷ (hash / 2 ^ 24) % 64 ∷ []

abbrev pub bits_of : List ℕ → List ℕ
bits_of key = bits_of_hash (fnv_1a key)

-- a key on the page sets the bit
abbrev pub has_bit : List FlashEntry → ℕ → Bool
has_bit entries bit = list_any (λ (entry : FlashEntry). list_any (λ other. other == bit) (bits_of entry.key)) entries

-- the page's word has all the bits of the key
abbrev pub word_has : List FlashEntry → List ℕ → Bool
word_has entries key = list_all (has_bit entries) (bits_of key)
