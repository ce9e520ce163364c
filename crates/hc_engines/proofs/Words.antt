-- The word of a page's entries, one after the other.
use Rattle.std.proofs.Common.{◌≡◌, ℕ, List, [], ◌∷◌, ◌++◌, refl, ap, sym, ◌∙◌, arith}
use Rattle.std.specs.Prelude.{bit_or}
use Rattle.std.specs.Int.{bit_at}
use Rattle.std.proofs.lemmas.Nat.{or_comm}
use Rattle.std.proofs.lemmas.Nat.Bits.{bit_at_or, same_from_bits}
use Rattle.hc_types.specs.FlashEntry.{FlashEntry}
use Rattle.hc_engines.specs.small.Bloom.{word_of, bits_of}

or_assoc : (a b c : ℕ) → bit_or (bit_or a b) c ≡ bit_or a (bit_or b c)
or_assoc a b c = same_from_bits (bit_or (bit_or a b) c) (bit_or a (bit_or b c)) each
  where
    each : (i : ℕ) → bit_at (bit_or (bit_or a b) c) i ≡ bit_at (bit_or a (bit_or b c)) i
    each i = grind (arith, bit_at_or (bit_or a b) c i, bit_at_or a b i, bit_at_or a (bit_or b c) i, bit_at_or b c i)

-- bits that are set now or before
pub bits_later : (more word bits : ℕ) → bit_or more (bit_or word bits) ≡ bit_or (bit_or more bits) word
bits_later more word bits = ap (bit_or more) (or_comm word bits) ∙ sym (or_assoc more bits word)

-- one more entry at the end
pub word_pushed : (es : List FlashEntry) (e : FlashEntry) → word_of (es ++ e ∷ []) ≡ bit_or (word_of es) (bits_of e.key)
word_pushed [] e = refl
word_pushed (x ∷ es) e = ap (λ w. bit_or w (bits_of x.key)) (word_pushed es e) ∙ or_assoc (word_of es) (bits_of e.key) (bits_of x.key) ∙ bits_later (word_of es) (bits_of e.key) (bits_of x.key)
